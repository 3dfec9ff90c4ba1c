use Rattle.std.proofs.Common.{◌≡◌, drop}
use Rattle.rows.specs.Tables.{rows_of, lowest_from, lowest_row}
use Rattle.rows.proofs.table.RowTable.lowest.Given as goal

abbrev pub invariant-loop-slot : goal.invariant-loop-slot
invariant-loop-slot l = lowest_from l.slot l.best (drop l.slot (rows_of l.self)) ≡ lowest_row (rows_of l.self)
