use Rattle.std.proofs.Common.{◌≡◌, ◌++◌, map, take, drop}
use Rattle.rows.specs.Rows.{dead_row}
use Rattle.rows.proofs.table.RowTable.kill_all.Given as goal

abbrev pub invariant-loop-row : goal.invariant-loop-row
invariant-loop-row l = l.row-items ≡ map dead_row (take l.row-index l.initial.row-items) ++ drop l.row-index l.initial.row-items
