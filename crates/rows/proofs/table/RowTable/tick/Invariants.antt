use Rattle.std.proofs.Common.{◌≡◌, ◌++◌, map, take, drop}
use Rattle.rows.specs.Rows.{ticked_row}
use Rattle.rows.proofs.table.RowTable.tick.Given as goal

abbrev pub invariant-loop-row : goal.invariant-loop-row
invariant-loop-row l = l.row-items ≡ map (ticked_row l.limit l.clock) (take l.row-index l.initial.row-items) ++ drop l.row-index l.initial.row-items
