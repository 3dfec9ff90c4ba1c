-- Pairs in any order and in rising order: what `add`, `above` and `in_order` keep. Assumes nothing.
use Rattle.std.proofs.Common.{◌≡◌, ℕ, suc, ◌<◌, ◌≤◌, Bool, true, false, cond, not, eqb, ltb, ◌≢◌, List, [], ◌∷◌, ◌++◌, length, sym, refl, ap, ◌∙◌, subst, inl, inr, arith}
use Rattle.std.proofs.lemmas.List.{append-nil}
use Rattle.std.proofs.lemmas.Bool.{both_ways, cases_eq, ltb-true, ltb-false, eq-eqb, ne_eqb, cond-true, cond-false, and_parts, not-true}
use Rattle.std.proofs.lemmas.Bool.Decides.{nat_tests}
use Rattle.store.specs.Pairs.{Pair, Meaning, holds, payload_of, add, above, in_order, good, distinct, Over, Rising, Sound}

pub holds_add : (n : ℕ) (p : Pair) (ps : List Pair) → holds n (add p ps) ≡ cond (eqb n p.number) true (holds n ps)
holds_add n p [] = refl
holds_add n p (q ∷ qs) = let ih = holds_add n p qs in grind (arith, nat_tests)

pub holds_in_order : (n : ℕ) (ps : List Pair) → holds n (in_order ps) ≡ holds n ps
holds_in_order n [] = refl
holds_in_order n (p ∷ ps) = holds_add n p (in_order ps) ∙ ap (λ b. cond (eqb n p.number) true b) (holds_in_order n ps)

pub payload_add : (n : ℕ) (p : Pair) (ps : List Pair) → holds p.number ps ≡ false → payload_of n (add p ps) ≡ cond (eqb n p.number) p.payload (payload_of n ps)
payload_add n p [] h = refl
payload_add n p (q ∷ qs) h =
    let hq : holds p.number qs ≡ false = grind (arith, nat_tests) in
    let ih = payload_add n p qs hq in grind (arith, nat_tests)

pub add_comm : (p q : Pair) (ps : List Pair) → p.number ≢ q.number → add p (add q ps) ≡ add q (add p ps)
add_comm p q [] ne = grind (arith, nat_tests)
add_comm p q (r ∷ rs) ne = let ih = add_comm p q rs ne in grind (arith, nat_tests)

pub above_add : (k : ℕ) (p : Pair) (ps : List Pair) → above k (add p ps) ≡ cond (ltb k p.number) (add p (above k ps)) (above k ps)
above_add k p [] = grind (arith, nat_tests)
above_add k p (q ∷ qs) = let ih = above_add k p qs in grind (arith, nat_tests)

pub payload_in_order : (n : ℕ) (ps : List Pair) → distinct ps ≡ true → payload_of n (in_order ps) ≡ payload_of n ps
payload_in_order n [] h = refl
payload_in_order n (p ∷ ps) h =
    let t = holds_in_order p.number ps in
    let free : holds p.number (in_order ps) ≡ false = grind (arith, nat_tests) in
    let rest : distinct ps ≡ true = grind (arith, nat_tests) in
    let a = payload_add n p (in_order ps) free in
    let ih = payload_in_order n ps rest in grind (arith, nat_tests)

pub above_in_order : (k : ℕ) (ps : List Pair) → above k (in_order ps) ≡ in_order (above k ps)
above_in_order k [] = refl
above_in_order k (p ∷ ps) = let a = above_add k p (in_order ps) in let ih = above_in_order k ps in grind (arith, nat_tests)

pub length_add : (p : Pair) (ps : List Pair) → length (add p ps) ≡ suc (length ps)
length_add p [] = refl
length_add p (q ∷ qs) = let ih = length_add p qs in grind (arith, nat_tests)

pub length_in_order : (ps : List Pair) → length (in_order ps) ≡ length ps
length_in_order [] = refl
length_in_order (p ∷ ps) = length_add p (in_order ps) ∙ ap suc (length_in_order ps)

pub holds_append : (n : ℕ) (ps qs : List Pair) → holds n (ps ++ qs) ≡ cond (holds n ps) true (holds n qs)
holds_append n [] qs = refl
holds_append n (p ∷ ps) qs = let ih = holds_append n ps qs in grind (arith, nat_tests)

-- a pair with a number of its own may stand anywhere
pub in_order_mid : (p : Pair) (ps qs : List Pair) → holds p.number (ps ++ qs) ≡ false → in_order (ps ++ (p ∷ qs)) ≡ add p (in_order (ps ++ qs))
in_order_mid p [] qs h = refl
in_order_mid p (r ∷ ps) qs h =
    let free : holds p.number (ps ++ qs) ≡ false = grind (arith, nat_tests) in
    let ne : r.number ≢ p.number = grind (arith, nat_tests) in
    ap (add r) (in_order_mid p ps qs free) ∙ add_comm r p (in_order (ps ++ qs)) ne

pub in_order_push : (p : Pair) (ps : List Pair) → holds p.number ps ≡ false → in_order (ps ++ (p ∷ [])) ≡ add p (in_order ps)
in_order_push p ps h =
    let e = append-nil ps in
    let free : holds p.number (ps ++ []) ≡ false = ap (holds p.number) e ∙ h in
    in_order_mid p ps [] free ∙ ap (λ xs. add p (in_order xs)) e

pub distinct_mid : (p : Pair) (ps qs : List Pair) → good p ≡ true → holds p.number (ps ++ qs) ≡ false → distinct (ps ++ qs) ≡ true → distinct (ps ++ (p ∷ qs)) ≡ true
distinct_mid p [] qs g h a = grind (arith, nat_tests)
distinct_mid p (r ∷ ps) qs g h a =
    let free : holds p.number (ps ++ qs) ≡ false = grind (arith, nat_tests) in
    let rest : distinct (ps ++ qs) ≡ true = grind (arith, nat_tests) in
    let ih = distinct_mid p ps qs g free rest in
    let x = holds_append r.number ps qs in
    let y = holds_append r.number ps (p ∷ qs) in grind (arith, nat_tests)

pub distinct_push : (p : Pair) (ps : List Pair) → good p ≡ true → holds p.number ps ≡ false → distinct ps ≡ true → distinct (ps ++ (p ∷ [])) ≡ true
distinct_push p ps g h a =
    let e = append-nil ps in
    distinct_mid p ps [] g (ap (holds p.number) e ∙ h) (ap distinct e ∙ a)

-- no pair before one has its number
holds_mid : (p : Pair) (ps qs : List Pair) → holds p.number (ps ++ (p ∷ qs)) ≡ true
holds_mid p [] qs = cond-true (eqb p.number p.number) true _ (eq-eqb p.number p.number refl)
holds_mid p (r ∷ ps) qs = let ih = holds_mid p ps qs in grind (arith, nat_tests)

pub distinct_front : (p : Pair) (ps qs : List Pair) → distinct (ps ++ (p ∷ qs)) ≡ true → holds p.number ps ≡ false
distinct_front p [] qs d = refl
distinct_front p (r ∷ ps) qs d =
    let parts = and_parts (not (holds r.number (ps ++ (p ∷ qs)))) (distinct (ps ++ (p ∷ qs))) (and_parts (good r) _ d).1 in
    let free = not-true (holds r.number (ps ++ (p ∷ qs))) parts.0 in
    let other : p.number ≡ r.number → ⊥ = λ e. both_ways (holds r.number (ps ++ (p ∷ qs))) free (ap (λ n. holds n (ps ++ (p ∷ qs))) (sym e) ∙ holds_mid p ps qs) in
    cond-false (eqb p.number r.number) true _ (ne_eqb p.number r.number other) ∙ distinct_front p ps qs parts.1

-- which numbers are left after a forget
pub holds_above : (n k : ℕ) (ps : List Pair) → holds n (above k ps) ≡ cond (ltb k n) (holds n ps) false
holds_above n k [] = grind (arith, nat_tests)
holds_above n k (p ∷ ps) = let ih = holds_above n k ps in grind (arith, nat_tests)

pub free_above : (n k : ℕ) (ps : List Pair) → holds n ps ≡ false → holds n (above k ps) ≡ false
free_above n k ps h = let e = holds_above n k ps in grind (arith, nat_tests)

pub distinct_above : (k : ℕ) (ps : List Pair) → distinct ps ≡ true → distinct (above k ps) ≡ true
distinct_above k [] h = refl
distinct_above k (p ∷ ps) h =
    let rest : distinct ps ≡ true = grind (arith, nat_tests) in
    let ih = distinct_above k ps rest in
    let free : holds p.number ps ≡ false = grind (arith, nat_tests) in
    let f = free_above p.number k ps free in grind (arith, nat_tests)

pub length_above : (k : ℕ) (ps : List Pair) → length (above k ps) ≤ length ps
length_above k [] = omega arith
length_above k (p ∷ ps) = let ih = length_above k ps in grind (arith, nat_tests)

-- what `in_order` makes is sound
distinct_add : (p : Pair) (ps : List Pair) → good p ≡ true → holds p.number ps ≡ false → distinct ps ≡ true → distinct (add p ps) ≡ true
distinct_add p [] g h a = grind (arith, nat_tests)
distinct_add p (q ∷ qs) g h a =
    let free : holds p.number qs ≡ false = grind (arith, nat_tests) in
    let rest : distinct qs ≡ true = grind (arith, nat_tests) in
    let ih = distinct_add p qs g free rest in
    let x = holds_add q.number p qs in grind (arith, nat_tests)

over_add : (n : ℕ) (p : Pair) (ps : List Pair) → n < p.number → Over n ps → Over n (add p ps)
over_add n p [] l o = (l, tt)
over_add n p (q ∷ qs) l o =
    let rest = over_add n p qs l o.1 in
    elim (ltb p.number q.number) as (λ b. Over n (cond b (p ∷ (q ∷ qs)) (q ∷ add p qs))) [ true ↦ (l, o) | false ↦ (o.0, rest) ]

pub over_less : (m n : ℕ) (ps : List Pair) → m < n → Over n ps → Over m ps
over_less m n [] l o = tt
over_less m n (p ∷ ps) l o = (omega (arith, o.0), over_less m n ps l o.1)

rising_add : (p : Pair) (ps : List Pair) → holds p.number ps ≡ false → Rising ps → Rising (add p ps)
rising_add p [] h r = (tt, tt)
rising_add p (q ∷ qs) h r =
    let free : holds p.number qs ≡ false = grind (arith, nat_tests) in
    let ne : p.number ≢ q.number = grind (arith, nat_tests) in
    let rest = rising_add p qs free r.1 in
    let P : Bool → Type 0 = λ b. ltb p.number q.number ≡ b → Rising (cond b (p ∷ (q ∷ qs)) (q ∷ add p qs)) in
    let go : P (ltb p.number q.number) =
    elim (ltb p.number q.number) as P [
      | true ↦ (λ e. let l : p.number < q.number = ltb-true p.number q.number e in ((l, over_less p.number q.number qs l r.0), r))
      | false ↦ (λ e. let l : q.number < p.number = omega (arith, ltb-false p.number q.number e) in (over_add q.number p qs l r.0, rest))
    ] in
    go refl

rising_in_order : (ps : List Pair) → distinct ps ≡ true → Rising (in_order ps)
rising_in_order [] h = tt
rising_in_order (p ∷ ps) h =
    let t = holds_in_order p.number ps in
    let free : holds p.number (in_order ps) ≡ false = grind (arith, nat_tests) in
    let rest : distinct ps ≡ true = grind (arith, nat_tests) in
    rising_add p (in_order ps) free (rising_in_order ps rest)

distinct_in_order : (ps : List Pair) → distinct ps ≡ true → distinct (in_order ps) ≡ true
distinct_in_order [] h = refl
distinct_in_order (p ∷ ps) h =
    let t = holds_in_order p.number ps in
    let free : holds p.number (in_order ps) ≡ false = grind (arith, nat_tests) in
    let rest : distinct ps ≡ true = grind (arith, nat_tests) in
    let g : good p ≡ true = grind (arith, nat_tests) in
    distinct_add p (in_order ps) g free (distinct_in_order ps rest)

pub sound_in_order : (m : Meaning) (ps : List Pair) → m.pairs ≡ in_order ps → distinct ps ≡ true → length ps ≤ m.capacity → Sound m
sound_in_order m ps is a l = record {
  rising = subst Rising (sym is) (rising_in_order ps a);
  distinct = ap distinct is ∙ distinct_in_order ps a;
  room = omega (arith, ap length is, length_in_order ps);
}

pub above_append : (k : ℕ) (ps qs : List Pair) → above k (ps ++ qs) ≡ above k ps ++ above k qs
above_append k [] qs = refl
above_append k (p ∷ ps) qs = let ih = above_append k ps qs in grind (arith, nat_tests)

pub payload_append : (n : ℕ) (ps qs : List Pair) → holds n ps ≡ false → payload_of n (ps ++ qs) ≡ payload_of n qs
payload_append n [] qs h = refl
payload_append n (p ∷ ps) qs h =
    let free : holds n ps ≡ false = grind (arith, nat_tests) in
    let ih = payload_append n ps qs free in grind (arith, nat_tests)

-- what is held is good
pub number_held : (n : ℕ) (ps : List Pair) → distinct ps ≡ true → holds n ps ≡ true → (0 < n) × (n < 4294967295)
number_held n [] a h = absurd (both_ways false refl h)
number_held n (p ∷ ps) a h =
    let rest : distinct ps ≡ true = grind (arith, nat_tests) in
    elim (cases_eq n p.number) [
      | inl e ↦ (grind (arith, nat_tests), grind (arith, nat_tests))
      | inr ne ↦ let free : holds n ps ≡ true = grind (arith, nat_tests) in number_held n ps rest free
    ]

pub length_held : (n : ℕ) (ps : List Pair) → distinct ps ≡ true → holds n ps ≡ true → (0 < length (payload_of n ps)) × (length (payload_of n ps) ≤ 512)
length_held n [] a h = absurd (both_ways false refl h)
length_held n (p ∷ ps) a h =
    let rest : distinct ps ≡ true = grind (arith, nat_tests) in
    elim (cases_eq n p.number) [
      | inl e ↦ (grind (arith, nat_tests), grind (arith, nat_tests))
      | inr ne ↦
          let free : holds n ps ≡ true = grind (arith, nat_tests) in
          let ih = length_held n ps rest free in (grind (arith, nat_tests), grind (arith, nat_tests))
    ]

-- what is left after a forget
pub payload_above : (n k : ℕ) (ps : List Pair) → k < n → payload_of n (above k ps) ≡ payload_of n ps
payload_above n k [] l = refl
payload_above n k (p ∷ ps) l = let ih = payload_above n k ps l in grind (arith, nat_tests)

-- a number above a new pair's that was absent stays absent
pub top_push : (n : ℕ) (p : Pair) (ps : List Pair) → holds n ps ≡ false → p.number < n → holds n (ps ++ (p ∷ [])) ≡ false
top_push n p ps f l = let x = holds_append n ps (p ∷ []) in grind (arith, nat_tests)

-- what a caller of any store wants: write `search (needs, stored)`
pub ruleset stored = (holds_add, payload_add, length_add, holds_above, payload_above, length_above, number_held, length_held)

-- what a store that keeps its pairs in another order wants
pub ruleset ordered = (holds_in_order, payload_in_order, length_in_order, in_order_push)
