-- The rows of a control node together: whose row is whose, what a child's packet does, and what is reported of all
-- live rows. Assumes nothing.
use Rattle.std.specs.Prelude.{ℕ, ◌+◌, max, Bool, false, cond, List, [], ◌∷◌, Some, None, vec_items, Option, ◌==◌, nat_le, slice_index_or, slice_set}
use Rattle.std.specs.List.{position, find, list_any, list_all, filter, fold}
use Rattle.rows.specs.declared.row.Row.{Row}
use Rattle.rows.specs.declared.row.FromChild.{FromChild}
use Rattle.rows.specs.declared.row.Decision.{Decision}
use Rattle.rows.specs.declared.table.RowTable.{RowTable}
use Rattle.rows.specs.Rows.{new_row, low_of, high_of, row_holds, live_at, decision}

abbrev pub rows_of : RowTable → List Row
rows_of t = vec_items t.rows

-- the slot of a child: the first whose row is the child's
abbrev pub slot_of : ℕ → List Row → Option ℕ
slot_of child rs = position (λ r. r.child == child) rs

-- the row in a slot
abbrev pub row_at : ℕ → List Row → Row
row_at k rs = slice_index_or rs k (new_row 0)

-- what the packet of the child in a slot decides; none for a number that is no child's
abbrev pub decided : Bool → ℕ → ℕ → FromChild → List Row → Option ℕ → Option Decision
decided joined low clock packet rs None = None
decided joined low clock packet rs (Some k) = Some (decision (record { joined = joined; low = low; slot = k }) clock packet (row_at k rs))

-- it changes that child's row and no other
abbrev pub rows_after : Option Decision → List Row → Option ℕ → List Row
rows_after None rs k = rs
rows_after (Some d) rs None = rs
rows_after (Some d) rs (Some k) = slice_set rs k d.row

-- whether a child has a live row with a term
abbrev pub is_live_at : ℕ → Option Row → Bool
is_live_at t None = false
is_live_at t (Some r) = live_at t r

abbrev pub has_live_row : ℕ → ℕ → List Row → Bool
has_live_row child t rs = is_live_at t (find (λ r. r.child == child) rs)

-- whether any row is live, and those that are
abbrev pub any_live : List Row → Bool
any_live rs = list_any (λ r. r.live) rs

abbrev pub live_rows : List Row → List Row
live_rows rs = filter (λ r. r.live) rs

-- the better of the lowest so far and the row in a slot: the first live row with the lowest low, and that low
abbrev pub lower_row : ℕ → Row → Option (ℕ × ℕ) → Option (ℕ × ℕ)
lower_row slot r None = cond r.live (Some (slot, low_of r)) None
lower_row slot r (Some b) = cond r.live (cond (nat_le b.1 (low_of r)) (Some b) (Some (slot, low_of r))) (Some b)

abbrev pub lowest_from : ℕ → Option (ℕ × ℕ) → List Row → Option (ℕ × ℕ)
lowest_from slot best [] = best
lowest_from slot best (r ∷ rs) = lowest_from (slot + 1) (lower_row slot r best) rs

abbrev pub lowest_row : List Row → Option (ℕ × ℕ)
lowest_row rs = lowest_from 0 None rs

-- the highest high of the live rows, 0 where there is none
abbrev pub highest_high : List Row → ℕ
highest_high rs = fold (λ best r. max best (high_of r)) 0 (live_rows rs)

-- whether every live row holds number n
abbrev pub all_hold : List Row → ℕ → Bool
all_hold rs n = list_all (λ r. row_holds r n) (live_rows rs)
