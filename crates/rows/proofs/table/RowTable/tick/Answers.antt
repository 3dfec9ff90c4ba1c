use Rattle.std.proofs.Common.{rules}
use Rattle.std.proofs.lemmas.List.Edits.{map_over_more}
use Rattle.rows.specs.Rows.{ticked_row}
use Rattle.rows.proofs.table.RowTable.tick.Goals as goal

pub loop-row-preserved : goal.loop-row-preserved
loop-row-preserved c = let more = map_over_more (ticked_row c.args.limit c.args.clock) in search (rules, more)
