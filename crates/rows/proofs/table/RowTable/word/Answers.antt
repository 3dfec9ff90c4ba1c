use Rattle.std.proofs.Common.{◌∙◌, rules, tests}
use Rattle.std.proofs.lemmas.Iterator.{YieldsList-from_slice}
use Rattle.std.proofs.lemmas.Iterator.Consumers.{YieldsList-from_filter, fold_from_yields_List}
use Rattle.rows.specs.Tables.{rows_of, live_rows}
use Rattle.rows.proofs.Joining.{with_row, joined_all}
use Rattle.rows.proofs.table.RowTable.word.Goals as goal

pub returns : goal.returns
returns c =
    let rows = rows_of c.args.self.now in
    fold_from_yields_List _ (with_row c.args.block) 4294967295 c.fold.result c.fold.ensures.ran (YieldsList-from_filter _ (λ r. r.live) (YieldsList-from_slice rows cc) c.filter.ensures.closure (λ x b q k. search (rules, tests))) (λ a x b q k. search (rules, tests))
    ∙ joined_all c.args.block (live_rows rows)
