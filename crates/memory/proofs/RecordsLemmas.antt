-- Records in memory: what a write at one place leaves of the records elsewhere. Assumes nothing.
use Rattle.std.specs.Prelude.{◌≡◌, ℕ, zero, suc, ◌+◌, ◌-◌, ◌*◌, ◌/◌, ◌%◌, ◌<◌, ◌≤◌, true, List, [], ◌∷◌, ◌++◌, length, take, drop, slice_index, slice_range, refl}
use Rattle.std.proofs.Common.{sym, ap, subst, ◌∙◌, inl, inr, arith, add-one}
use borrow.Rule.Slice.PartMut.{put_mid}
use Rattle.std.proofs.Math.Seq.{paste}
use Rattle.std.proofs.lemmas.List.{length-append, get_or-take, get_or-drop, drop-take, take-take, take_all, drop-drop, length-drop, length-take, drop_at, take_at, length-take-le, append_assoc, take-append-drop}
use Rattle.std.proofs.lemmas.Slice.{put_mid-paste}
use Rattle.std.proofs.lemmas.Nat.{shr-shr}
use Rattle.std.proofs.lemmas.List.Edits.{paste-paste, drop-paste}
use Rattle.std.proofs.lemmas.Bool.{cases_lt}
use Rattle.std.proofs.lemmas.Bool.Decides.{nat_tests}
use Rattle.store.specs.Pairs.{pair, distinct}
use Rattle.memory.specs.Records.{number_of, length_of, size_of, body_of, record_of, records, span, header, encoded, body_at}

-- three writes, one after the other, are one
pub three_writes : (d : List ℕ) (at : ℕ) (y1 y2 y3 h k p : List ℕ) → y1 ≡ h → y2 ≡ k → y3 ≡ p → length h ≡ 4 → length k ≡ 2 → at ≤ length d → put_mid (at + 6) (at + 6 + length p - (at + 6)) (put_mid (at + 4) (at + 6 - (at + 4)) (put_mid at (at + 4 - at) d y1) y2) y3 ≡ paste d at ((h ++ k) ++ p) (6 + length p)
three_writes d at y1 y2 y3 h k p e1 e2 e3 l1 l2 within =
    let a : put_mid at (at + 4 - at) d y1 ≡ paste d at h 4 = put_mid-paste at (at + 4 - at) d y1 h 4 e1 (omega arith) (sym l1) in
    let b : put_mid (at + 4) (at + 6 - (at + 4)) (paste d at h 4) y2 ≡ paste (paste d at h 4) (at + 4) k 2 = put_mid-paste (at + 4) (at + 6 - (at + 4)) (paste d at h 4) y2 k 2 e2 (omega arith) (sym l2) in
    let b' : paste (paste d at h 4) (at + 4) k 2 ≡ paste d at (h ++ k) 6 = paste-paste d at h k 4 2 (sym l1) (sym l2) within in
    let e : put_mid (at + 6) (at + 6 + length p - (at + 6)) (paste d at (h ++ k) 6) y3 ≡ paste (paste d at (h ++ k) 6) (at + 6) p (length p) = put_mid-paste (at + 6) (at + 6 + length p - (at + 6)) (paste d at (h ++ k) 6) y3 p (length p) e3 (omega arith) refl in
    let e' : paste (paste d at (h ++ k) 6) (at + 6) p (length p) ≡ paste d at ((h ++ k) ++ p) (6 + length p) = paste-paste d at (h ++ k) p 6 (length p) (omega (arith, length-append h k)) refl within in
    ap (λ x. put_mid (at + 6) (at + 6 + length p - (at + 6)) (put_mid (at + 4) (at + 6 - (at + 4)) x y2) y3) a
    ∙ ap (λ x. put_mid (at + 6) (at + 6 + length p - (at + 6)) x y3) (b ∙ b')
    ∙ e ∙ e'

module _ (d : List ℕ) (at : ℕ) (s : List ℕ) (n : ℕ) (within : at ≤ length d) where
  parts : paste d at s n ≡ take at d ++ (take n s ++ drop (at + n) d)
  parts = append_assoc (take at d) (take n s) (drop (at + n) d)

  pub paste_front : take at (paste d at s n) ≡ take at d
  paste_front = ap (take at) parts ∙ take_at (take at d) _ at (length-take-le at d within)

  pub paste_drop : drop at (paste d at s n) ≡ take n s ++ drop (at + n) d
  paste_drop = ap (drop at) parts ∙ drop_at (take at d) _ at (length-take-le at d within)

  pub paste_here : n ≤ length s → take n (drop at (paste d at s n)) ≡ take n s
  paste_here h = ap (take n) paste_drop ∙ take_at (take n s) _ n (length-take-le n s h)

  pub paste_past : (e : ℕ) → at + n ≤ e → n ≤ length s → drop e (paste d at s n) ≡ drop e d
  paste_past e le h =
      let x = drop-drop (e - (at + n)) (at + n) (paste d at s n) in
      let y = drop-drop (e - (at + n)) (at + n) d in
      let z : at + n + (e - (at + n)) ≡ e = omega arith in
      let q = drop-paste d at s n within h in
      subst (λ k. drop k (paste d at s n) ≡ drop k d) z (sym x ∙ ap (drop (e - (at + n))) q ∙ y)

-- what `&xs[k..]` has
pub rest_is : (k : ℕ) (xs : List ℕ) → take (length xs - k) (drop k xs) ≡ drop k xs
rest_is k xs = take_all (length xs - k) (drop k xs) (omega (arith, length-drop k xs))

-- bytes that agree
same_at : (m : ℕ) (xs ys : List ℕ) → take m xs ≡ take m ys → (i : ℕ) → i < m → slice_index xs i ≡ slice_index ys i
same_at m xs ys e i l = sym (get_or-take m xs i 0 l) ∙ ap (λ zs. slice_index zs i) e ∙ get_or-take m ys i 0 l

-- a paste changes no byte beside what it writes
pub paste_beside : (d : List ℕ) (at : ℕ) (s : List ℕ) (n : ℕ) → at ≤ length d → n ≤ length s → (i : ℕ) → (at ≤ i → at + n ≤ i) → slice_index (paste d at s n) i ≡ slice_index d i
paste_beside d at s n within h i beside =
    let new = paste d at s n in
    elim (cases_lt i at) [
      | inl l ↦ same_at at new d (paste_front d at s n within) i l
      | inr g ↦
          let e : drop i new ≡ drop i d = paste_past d at s n within i (beside (omega arith)) h in
          let z : i + 0 ≡ i = omega arith in
          subst (λ k. slice_index new k ≡ slice_index d k) z (sym (get_or-drop i new 0 0) ∙ ap (λ xs. slice_index xs 0) e ∙ get_or-drop i d 0 0)
    ]

pub same_drop : (m k : ℕ) (xs ys : List ℕ) → take m xs ≡ take m ys → k ≤ m → slice_range xs k m ≡ slice_range ys k m
same_drop m k xs ys e l =
    let z : k + (m - k) ≡ m = omega arith in
    sym (drop-take k (m - k) xs) ∙ ap (λ j. drop k (take j xs)) z ∙ ap (drop k) e ∙ ap (λ j. drop k (take j ys)) (sym z) ∙ drop-take k (m - k) ys

pub same_less : (m k : ℕ) (xs ys : List ℕ) → take m xs ≡ take m ys → k ≤ m → take k xs ≡ take k ys
same_less m k xs ys e l = sym (take-take k m xs l) ∙ ap (take k) e ∙ take-take k m ys l

pub same_length : (m : ℕ) (xs ys : List ℕ) → 6 ≤ m → take m xs ≡ take m ys → length_of xs ≡ length_of ys
unfolding length_of
same_length m xs ys l e = let a = same_at m xs ys e 4 (omega arith) in let b = same_at m xs ys e 5 (omega arith) in omega arith

same_number : (m : ℕ) (xs ys : List ℕ) → 6 ≤ m → take m xs ≡ take m ys → number_of xs ≡ number_of ys
unfolding number_of
same_number m xs ys l e =
    let a = same_at m xs ys e 0 (omega arith) in
    let b = same_at m xs ys e 1 (omega arith) in
    let c = same_at m xs ys e 2 (omega arith) in
    let d = same_at m xs ys e 3 (omega arith) in omega arith

pub same_record : (m : ℕ) (xs ys : List ℕ) → size_of xs ≤ m → take m xs ≡ take m ys → record_of xs ≡ record_of ys
unfolding record_of
same_record m xs ys l e =
    let n : number_of xs ≡ number_of ys = same_number m xs ys (omega arith) e in
    let k : length_of xs ≡ length_of ys = same_length m xs ys (omega arith) e in
    let b : take (length_of xs) (drop 6 xs) ≡ take (length_of xs) (drop 6 ys) = same_less (m - 6) (length_of xs) (drop 6 xs) (drop 6 ys) (same_drop m 6 xs ys e (omega arith)) (omega arith) in
    let b' : take (length_of xs) (drop 6 ys) ≡ take (length_of ys) (drop 6 ys) = ap (λ j. take j (drop 6 ys)) k in
    let r = b ∙ b' in cc

-- the parts of a record
pub number_is : (xs : List ℕ) → (record_of xs).number ≡ number_of xs
unfolding record_of
number_is xs = refl

pub payload_is : (xs : List ℕ) → (record_of xs).payload ≡ take (length_of xs) (drop 6 xs)
unfolding record_of
payload_is xs = refl

-- the payload of the record at `at` is that of the record at the front of what lies there
pub found_body : (at : ℕ) (xs : List ℕ) → body_of (drop at xs) ≡ body_at at xs
found_body at xs = ap (take (length_of (drop at xs))) (drop-drop 6 at xs)

-- a run of records is the same wherever its bytes are
pub same_run : (n m : ℕ) (xs ys : List ℕ) → span n xs ≤ m → take m xs ≡ take m ys → (records n xs ≡ records n ys) × (span n xs ≡ span n ys)
same_run zero m xs ys l e = (refl, refl)
same_run (suc n) m xs ys l e =
    let k : length_of xs ≡ length_of ys = same_length m xs ys (omega arith) e in
    let r = same_record m xs ys (omega arith) e in
    let d = same_drop m (size_of xs) xs ys e (omega arith) in
    let ih = same_run n (m - size_of xs) (drop (size_of xs) xs) (drop (size_of xs) ys) (omega arith) d in
    let a : records n (drop (size_of xs) xs) ≡ records n (drop (size_of ys) ys) = ih.0 ∙ ap (λ j. records n (drop (6 + j) ys)) k in
    let b : span n (drop (size_of xs) xs) ≡ span n (drop (size_of ys) ys) = ih.1 ∙ ap (λ j. span n (drop (6 + j) ys)) k in
    (cc, omega arith)

-- one record from the front, and one more at the end
pub run_step : (n : ℕ) (xs : List ℕ) → 0 < n → (records n xs ≡ record_of xs ∷ records (n - 1) (drop (size_of xs) xs)) × (span n xs ≡ size_of xs + span (n - 1) (drop (size_of xs) xs))
run_step zero xs l = absurd (omega arith)
run_step (suc n) xs l =
    let z : suc n - 1 ≡ n = omega arith in
    (ap (λ j. record_of xs ∷ records j (drop (size_of xs) xs)) (sym z), ap (λ j. size_of xs + span j (drop (size_of xs) xs)) (sym z))

pub run_push : (n : ℕ) (xs : List ℕ) → (records (n + 1) xs ≡ records n xs ++ (record_of (drop (span n xs) xs) ∷ [])) × (span (n + 1) xs ≡ span n xs + size_of (drop (span n xs) xs))
run_push n xs = rw add-one (push n xs)
  where
    push : (n : ℕ) (xs : List ℕ) → (records (suc n) xs ≡ records n xs ++ (record_of (drop (span n xs) xs) ∷ [])) × (span (suc n) xs ≡ span n xs + size_of (drop (span n xs) xs))
    push zero xs = (refl, omega arith)
    push (suc n) xs =
        let ih = push n (drop (size_of xs) xs) in
        let dd = drop-drop (span n (drop (size_of xs) xs)) (size_of xs) xs in
        (ap (λ rs. record_of xs ∷ rs) (ih.0 ∙ ap (λ ys. records n (drop (size_of xs) xs) ++ (record_of ys ∷ [])) dd), omega (arith, ih.1, ap length_of dd))

pub length_encoded : (n : ℕ) (p : List ℕ) → length (encoded n p) ≡ 6 + length p
unfolding header
length_encoded n p = omega arith

-- what was written is read
pub decoded : (n : ℕ) (p zs : List ℕ) → n < 4294967296 → length p < 65536 → (length_of (encoded n p ++ zs) ≡ length p) × (record_of (encoded n p ++ zs) ≡ pair n p)
unfolding header number_of length_of record_of
decoded n p zs ln lp =
    let k : length p / 256 % 256 * 256 + length p % 256 ≡ length p = omega arith in
    let q2 : n / 256 / 256 ≡ n / 65536 = shr-shr n 8 8 in
    let q3 : n / 65536 / 256 ≡ n / 16777216 = shr-shr n 16 8 in
    let d1 : n ≡ n / 256 * 256 + n % 256 = omega arith in
    let d2 : n / 256 ≡ n / 65536 * 256 + n / 256 % 256 = omega arith in
    let d3 : n / 65536 ≡ n / 16777216 * 256 + n / 65536 % 256 = omega arith in
    let d4 : n / 16777216 % 256 ≡ n / 16777216 = omega arith in
    let m : n / 16777216 % 256 * 16777216 + n / 65536 % 256 * 65536 + n / 256 % 256 * 256 + n % 256 ≡ n = omega arith in
    let b : take (length p) (p ++ zs) ≡ p = take_at p zs (length p) refl in
    (k, ap (λ j. pair (n / 16777216 % 256 * 16777216 + n / 65536 % 256 * 65536 + n / 256 % 256 * 256 + n % 256) (take j (p ++ zs))) k ∙ cc)

pub length_body : (xs : List ℕ) → size_of xs ≤ length xs → length (record_of xs).payload ≡ length_of xs
unfolding record_of
length_body xs l = simp (length-take, length-drop) (omega arith)

-- good records take at most 518 bytes each
pub span_bound : (n : ℕ) (xs : List ℕ) → distinct (records n xs) ≡ true → span n xs ≤ length xs → span n xs ≤ n * 518
span_bound zero xs a l = omega arith
span_bound (suc n) xs a l =
    let b = length_body xs (omega arith) in
    let ld = length-drop (size_of xs) xs in
    let rest : distinct (records n (drop (size_of xs) xs)) ≡ true = grind (arith, nat_tests) in
    let small : length (record_of xs).payload < 513 = grind (arith, nat_tests) in
    let ih = span_bound n (drop (size_of xs) xs) rest (omega arith) in
    omega arith

-- what is pasted where it lies changes nothing
pub paste_same : (d : List ℕ) (at n : ℕ) → d ≡ paste d at (drop at d) n
paste_same d at n = sym (append_assoc (take at d) (take n (drop at d)) (drop (at + n) d) ∙ ap (λ r. take at d ++ (take n (drop at d) ++ r)) (sym (drop-drop n at d)) ∙ ap (λ r. take at d ++ r) (take-append-drop n (drop at d)) ∙ take-append-drop at d)
