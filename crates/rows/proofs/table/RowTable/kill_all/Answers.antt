use Rattle.std.proofs.Common.{rules}
use Rattle.std.proofs.lemmas.List.Edits.{map_over_more}
use Rattle.rows.specs.Rows.{dead_row}
use Rattle.rows.proofs.table.RowTable.kill_all.Goals as goal

pub loop-row-preserved : goal.loop-row-preserved
loop-row-preserved c = let more = map_over_more dead_row in search (rules, more)
