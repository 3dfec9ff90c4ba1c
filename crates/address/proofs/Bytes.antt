-- A test of equal bytes is the one that the definitions compute. Assumes nothing.
use Rattle.std.proofs.Common.{◌≡◌, ℕ, Bool, true, false, eqb, List, [], ◌∷◌, Decides, sym, refl, ◌∙◌, subst, inl, inr}
use Rattle.std.proofs.lemmas.Bool.{both_ways, cases_Bool, eq-eqb, eqb-true, and_parts, and_from}
use Rattle.address.specs.Addresses.{same_bytes}

same_self : (xs : List ℕ) → same_bytes xs xs ≡ true
same_self [] = refl
same_self (x ∷ xs) = and_from (eqb x x) (same_bytes xs xs) (eq-eqb x x refl) (same_self xs)

same_true : (xs ys : List ℕ) → same_bytes xs ys ≡ true → xs ≡ ys
same_true [] [] e = refl
same_true [] (y ∷ ys) e = absurd (both_ways false refl e)
same_true (x ∷ xs) [] e = absurd (both_ways false refl e)
same_true (x ∷ xs) (y ∷ ys) e =
    let p = and_parts (eqb x y) (same_bytes xs ys) e in
    let h = eqb-true x y p.0 in
    let t = same_true xs ys p.1 in
    cc

pub decides_same : (r : Bool) (xs ys : List ℕ) → Decides r (xs ≡ ys) → r ≡ same_bytes xs ys
decides_same r xs ys d =
    elim (cases_Bool (same_bytes xs ys)) [
      | inl yes-same ↦ d.1 (same_true xs ys yes-same) ∙ sym yes-same
      | inr not_same ↦
          elim (cases_Bool r) [
            | inl t ↦ absurd (both_ways (same_bytes xs ys) not_same (subst (λ zs. same_bytes xs zs ≡ true) (d.0 t) (same_self xs)))
            | inr f ↦ f ∙ sym not_same
          ]
    ]
