-- Bytes put into a buffer: the laws of `overwrite`. Assumes nothing.
use Rattle.std.proofs.Common.{◌≡◌, ℕ, ◌+◌, ◌-◌, ◌<◌, ◌≤◌, List, [], ◌∷◌, ◌++◌, length, get_or, take, drop, set, sym, refl, ap, ◌∙◌, append_assoc, append-nil, zero-add, arith, length-append, length-drop}
use Rattle.std.proofs.lemmas.List.{drop-drop, take_at, drop_at, length-take-le, take_rest, drop_all, drop_more, set_at}
use borrow.Rule.Slice.PartMut.{put_mid}
use Rattle.wire.specs.Fields.{overwrite}

-- a part of the buffer, from a on, that was written whole
pub overwrite_part : (a k : ℕ) (out part bs : List ℕ) → part ≡ bs → k ≡ length bs → put_mid a k out part ≡ overwrite a bs out
unfolding overwrite
overwrite_part a k out part bs e f =
    ap (λ l. take a out ++ l) (rw (e, f, drop-drop (length bs) a out))

-- one write after another, side by side
pub overwrite_twice : (i j : ℕ) (xs ys out : List ℕ) → j ≡ i + length xs → i + length xs ≤ length out → overwrite j ys (overwrite i xs out) ≡ overwrite i (xs ++ ys) out
unfolding overwrite
overwrite_twice i j xs ys out e h =
    let t : length (take i out) ≡ i = length-take-le i out (omega arith) in
    let front : length (take i out ++ xs) ≡ j = length-append (take i out) xs ∙ (omega arith) in
    let cut : (take i out ++ (xs ++ drop (i + length xs) out)) ≡ (take i out ++ xs) ++ drop (i + length xs) out = sym (append_assoc (take i out) xs _) in
    let a : take j (take i out ++ (xs ++ drop (i + length xs) out)) ≡ take i out ++ xs = ap (take j) cut ∙ take_at (take i out ++ xs) _ j front in
    let b : drop (j + length ys) (take i out ++ (xs ++ drop (i + length xs) out)) ≡ drop (i + length (xs ++ ys)) out =
    sym (drop-drop (length ys) j _) ∙ ap (λ l. drop (length ys) (drop j l)) cut ∙ ap (drop (length ys)) (drop_at (take i out ++ xs) _ j front)
    ∙ drop-drop (length ys) (i + length xs) out ∙ ap (λ n. drop n out) (simp length-append (omega arith)) in
    rw (a, b, append_assoc (take i out) xs _, append_assoc xs ys _)

-- the same, where the buffers between have names
pub overwrite_next : (i j : ℕ) (xs ys out : List ℕ) {mid last : List ℕ} → mid ≡ overwrite i xs out → last ≡ overwrite j ys mid → j ≡ i + length xs → i + length xs ≤ length out → last ≡ overwrite i (xs ++ ys) out
overwrite_next i j xs ys out e f k h = f ∙ ap (overwrite j ys) e ∙ overwrite_twice i j xs ys out k h

pub overwrite_none : (out : List ℕ) → out ≡ overwrite 0 [] out
unfolding overwrite
overwrite_none out = refl

-- a write at the front of a part that was lent from a on
pub overwrite_from : (a : ℕ) (out part bs : List ℕ) → part ≡ overwrite 0 bs (take (length out - a) (drop a out)) → put_mid a (length out - a) out part ≡ overwrite a bs out
unfolding overwrite
overwrite_from a out part bs e =
    let lent : part ≡ bs ++ drop (a + length bs) out = e ∙ rw (take_rest out a, zero-add (length bs), drop-drop (length bs) a out) in
    let none : drop (length out - a) (drop a out) ≡ [] = drop_all (length out - a) (drop a out) (simp length-drop (omega arith)) in
    ap (λ l. take a out ++ (l ++ drop (length out - a) (drop a out))) lent ∙ ap (λ l. take a out ++ ((bs ++ drop (a + length bs) out) ++ l)) none ∙ ap (λ l. take a out ++ l) (append-nil _)

-- one element more
pub overwrite_one : (xs out now : List ℕ) (y i : ℕ) → now ≡ overwrite 0 xs out → i ≡ length xs → length xs < length out → set now i y ≡ overwrite 0 (xs ++ y ∷ []) out
unfolding overwrite
overwrite_one xs out now y i e k h =
    let z = zero-add (length xs) in
    let long : length (xs ++ y ∷ []) ≡ length xs + 1 = length-append xs (y ∷ []) in
    ap (λ l. set l i y) (e ∙ ap (λ n. xs ++ drop n out) z) ∙ ap (λ n. set (xs ++ drop (length xs) out) n y) k
    ∙ ap (λ l. set (xs ++ l) (length xs) y) (drop_more out (length xs) 0 h) ∙ set_at xs (get_or out (length xs) 0) (drop (length xs + 1) out) y (length xs) refl
    ∙ sym (append_assoc xs (y ∷ []) (drop (length xs + 1) out)) ∙ ap (λ n. (xs ++ y ∷ []) ++ drop n out) (sym long ∙ sym (zero-add (length (xs ++ y ∷ []))))

pub take_overwrite : (xs out : List ℕ) (n : ℕ) → n ≡ length xs → take n (overwrite 0 xs out) ≡ xs
unfolding overwrite
take_overwrite xs out n e = take_at xs _ n (sym e)
