-- The lowest missing number: the walk over rising pairs finds it, and there is only one. Assumes nothing.
use Rattle.std.proofs.Common.{◌≡◌, ℕ, ◌+◌, ◌<◌, true, false, List, [], ◌∷◌, refl, ap, ◌∙◌, inl, inr, arith}
use Rattle.std.proofs.lemmas.Bool.{both_ways, cases_eq, cases_lt}
use Rattle.std.proofs.lemmas.Bool.Decides.{nat_tests}
use Rattle.store.specs.Pairs.{Pair, Meaning, Sound, holds, Over, Rising, lowest_missing, Lowest}
use Rattle.store.proofs.Keeping.{over_less, number_held}

-- a number below all of a list is not in it
over_free : (n : ℕ) (ps : List Pair) → Over n ps → holds n ps ≡ false
over_free n [] o = refl
over_free n (p ∷ ps) o = let l = o.0 in let ih = over_free n ps o.1 in grind (arith, nat_tests)

pub lowest_is : (k : ℕ) (ps : List Pair) → Rising ps → Lowest k ps (lowest_missing k ps)
lowest_is k [] r = record { from = omega arith; missing = refl; below = λ n a b. absurd (omega arith) }
lowest_is k (p ∷ ps) r =
    elim (cases_eq k p.number) [
      | inl e ↦
          let ih = lowest_is (k + 1) ps r.1 in
          let is : lowest_missing k (p ∷ ps) ≡ lowest_missing (k + 1) ps = grind (arith, nat_tests) in
          let from = ih.from in
          let missing = ih.missing in
          record {
            from = omega arith;
            missing = ap (λ n. holds n (p ∷ ps)) is ∙ grind (arith, nat_tests);
            below = λ n a b. elim (cases_eq n k) [ inl z ↦ grind (arith, nat_tests) | inr ne ↦ let h = ih.below n (omega arith) (omega arith) in grind (arith, nat_tests) ];
          }
      | inr ne ↦
          elim (cases_lt p.number k) [
            | inl l ↦
                let ih = lowest_is k ps r.1 in
                let is : lowest_missing k (p ∷ ps) ≡ lowest_missing k ps = grind (arith, nat_tests) in
                let from = ih.from in
                let missing = ih.missing in
                record {
                  from = omega arith;
                  missing = ap (λ n. holds n (p ∷ ps)) is ∙ grind (arith, nat_tests);
                  below = λ n a b. let h = ih.below n a (omega arith) in grind (arith, nat_tests);
                }
            | inr l ↦
                let is : lowest_missing k (p ∷ ps) ≡ k = grind (arith, nat_tests) in
                let lt : k < p.number = omega arith in
                let free = over_free k ps (over_less k p.number ps lt r.0) in
                record {
                  from = omega arith;
                  missing = ap (λ n. holds n (p ∷ ps)) is ∙ grind (arith, nat_tests);
                  below = λ n a b. absurd (omega arith);
                }
          ]
    ]

-- no store holds the number after the last
pub last_free : (m : Meaning) → Sound m → holds 4294967295 m.pairs ≡ false
last_free m s = let h = number_held 4294967295 m.pairs s.distinct in elim (holds 4294967295 m.pairs) as (λ b. holds 4294967295 m.pairs ≡ b → holds 4294967295 m.pairs ≡ false) [ true ↦ (λ e. absurd (omega (arith, (h e).1))) | false ↦ (λ e. e) ] refl

pub lowest_one : (k : ℕ) (ps : List Pair) (m n : ℕ) → Lowest k ps m → Lowest k ps n → m ≡ n
lowest_one k ps m n a b =
    elim (cases_lt m n) [
      | inl l ↦ absurd (both_ways (holds m ps) a.missing (b.below m a.from l))
      | inr g ↦
          elim (cases_lt n m) [
            | inl l ↦ absurd (both_ways (holds n ps) b.missing (a.below n b.from l))
            | inr h ↦ omega arith
          ]
    ]

-- so the walk's answer is whatever is the lowest
pub lowest_found : (m : Meaning) (k r : ℕ) → Sound m → Lowest k m.pairs r → r ≡ lowest_missing k m.pairs
lowest_found m k r s l = lowest_one k m.pairs r (lowest_missing k m.pairs) l (lowest_is k m.pairs s.rising)
