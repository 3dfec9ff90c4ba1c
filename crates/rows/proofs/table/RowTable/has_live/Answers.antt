use Rattle.std.proofs.Common.{◌==◌, rules, tests}
use Rattle.std.proofs.lemmas.Iterator.{YieldsList-from_slice}
use Rattle.std.proofs.lemmas.Iterator.Search.{find_from_yields_List}
use Rattle.rows.specs.Tables.{rows_of}
use Rattle.rows.proofs.table.RowTable.has_live.Goals as goal

pub returns : goal.returns
returns c =
    let rows = rows_of c.args.self.now in
    let found = find_from_yields_List (λ r. r.child == c.args.child) _ _ c.find.result c.find.ensures.ran (YieldsList-from_slice rows cc) (λ x b q k. search (rules, tests)) in
    search (rules, found)
