use Rattle.std.proofs.Common.{unwrap_or, ap, ◌∙◌, rules, tests}
use Rattle.std.proofs.lemmas.Iterator.{YieldsList-from_slice, YieldsList-from_map}
use Rattle.std.proofs.lemmas.Iterator.Consumers.{YieldsList-from_filter, reduce_from_yields_List}
use Rattle.std.proofs.lemmas.List.Folds.{max_of_map}
use Rattle.rows.specs.Rows.{high_of}
use Rattle.rows.specs.Tables.{rows_of, live_rows}
use Rattle.rows.proofs.table.RowTable.highest.Goals as goal

pub returns : goal.returns
returns c =
    let rows = rows_of c.args.self.now in
    c.unwrap_or.ensures
    ∙ ap (λ m. unwrap_or m 0) (reduce_from_yields_List _ c.map.result _ c.max.ensures.ran (YieldsList-from_map _ high_of (YieldsList-from_filter _ (λ r. r.live) (YieldsList-from_slice rows cc) c.filter.ensures.closure (λ x b q k. search (rules, tests))) c.map.ensures.closure (λ x b q k. search (rules, tests))))
    ∙ max_of_map high_of (live_rows rows)
