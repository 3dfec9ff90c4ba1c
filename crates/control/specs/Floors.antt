-- A report never lowers the floor of a node that no live row is behind. Assumes nothing.
use Rattle.std.specs.Prelude.{◌≡◌, ℕ, ◌+◌, ◌≤◌, Bool, true, false, cond, List, [], ◌∷◌, Some, None, Option, nat_le, refl}
use Rattle.std.proofs.Common.{arith}
use Rattle.rows.specs.declared.row.Row.{Row}
use Rattle.rows.specs.Rows.{low_of}
use Rattle.rows.specs.Tables.{lower_row, lowest_from, lowest_row}
use Rattle.control.specs.Controls.{low_from, Ahead}

-- the lowest so far, if there is one, is not below
abbrev AtLeast : ℕ → Option (ℕ × ℕ) → Type 0
AtLeast low None = Unit {0}
AtLeast low (Some best) = low ≤ best.1

choose : (P : Option (ℕ × ℕ) → Type 0) (b : Bool) (x y : Option (ℕ × ℕ)) → (b ≡ true → P x) → (b ≡ false → P y) → P (cond b x y)
choose P true x y f g = f refl
choose P false x y f g = g refl

lower_at_least : (low slot : ℕ) (r : Row) (best : Option (ℕ × ℕ)) → AtLeast low best → (r.live ≡ true → low ≤ low_of r) → AtLeast low (lower_row slot r best)
lower_at_least low slot r None f a = choose (AtLeast low) r.live (Some (slot, low_of r)) None a (λ _. tt)
lower_at_least low slot r (Some b) f a =
    choose (AtLeast low) r.live (cond (nat_le b.1 (low_of r)) (Some b) (Some (slot, low_of r))) (Some b)
    (λ live. choose (AtLeast low) (nat_le b.1 (low_of r)) (Some b) (Some (slot, low_of r)) (λ _. f) (λ _. a live))
    (λ _. f)

lowest_at_least : (low slot : ℕ) (best : Option (ℕ × ℕ)) (rs : List Row) → AtLeast low best → Ahead low rs → AtLeast low (lowest_from slot best rs)
lowest_at_least low slot best [] f a = f
lowest_at_least low slot best (r ∷ rs) f a = lowest_at_least low (slot + 1) (lower_row slot r best) rs (lower_at_least low slot r best f a.0) a.1

low_at_least : (low : ℕ) (best : Option (ℕ × ℕ)) → AtLeast low best → low ≤ low_from low best
low_at_least low None f = omega arith
low_at_least low (Some b) f = f

pub low_rises : (low : ℕ) (rs : List Row) → Ahead low rs → low ≤ low_from low (lowest_row rs)
low_rises low rs a = low_at_least low (lowest_row rs) (lowest_at_least low 0 None rs tt a)
