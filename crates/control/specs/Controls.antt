-- A control node as a member: what joining, going outside and reporting make of its rows. Assumes nothing.
use Rattle.std.specs.Prelude.{◌≡◌, ℕ, ◌+◌, ◌≤◌, min, true, List, [], ◌∷◌, map, Some, None, Option}
use Rattle.rows.specs.declared.row.Row.{Row}
use Rattle.rows.specs.declared.table.RowTable.{RowTable}
use Rattle.rows.specs.Rows.{low_of, dead_row}
use Rattle.wire.specs.Flags.{held_words}
use Rattle.rows.specs.Tables.{rows_of, lowest_row, highest_high, all_hold}
use Rattle.member.specs.declared.types.Summary.{Summary}
use Rattle.control.specs.declared.kind.Rows.{Rows}

-- the rows of a node as a list
abbrev pub SeenRows : Type 0
SeenRows = Rows (List Row)

abbrev pub rows_seen : Rows RowTable → SeenRows
rows_seen x = record { low = x.low; table = rows_of x.table }

abbrev pub rows_entered : ℕ → SeenRows → SeenRows
rows_entered start x = record { low = start; table = x.table }

abbrev pub rows_exited : SeenRows → SeenRows
rows_exited x = record { low = x.low; table = map dead_row x.table }

-- LSN is the lowest low of the live rows, HSN the highest high but at most LSN + 255, and a flag is 1 where every live row
-- holds the number
abbrev pub summary_from : List Row → Option (ℕ × ℕ) → Option Summary
summary_from rs None = None
summary_from rs (Some best) = Some (record { lsn = best.1; hsn = min (highest_high rs) (best.1 + 255); flags = held_words (all_hold rs) best.1 })

abbrev pub rows_summary : SeenRows → Option Summary
rows_summary x = summary_from x.table (lowest_row x.table)

-- the floor becomes the lowest low less one
abbrev pub low_from : ℕ → Option (ℕ × ℕ) → ℕ
low_from low None = low
low_from low (Some best) = best.1

abbrev pub rows_settled : SeenRows → SeenRows
rows_settled x = record { low = low_from x.low (lowest_row x.table); table = x.table }

-- no live row is behind the node
abbrev pub Ahead : ℕ → List Row → Type 0
Ahead low [] = Unit {0}
Ahead low (r ∷ rs) = (r.live ≡ true → low ≤ low_of r) × Ahead low rs

abbrev pub RowsSound : SeenRows → Type 0
RowsSound x = Ahead x.low x.table
