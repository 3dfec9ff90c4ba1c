use Rattle.std.proofs.Common.{sym, ap, ◌∙◌, rules}
use Rattle.store.specs.Pairs.{holds, Lowest}
use Rattle.store.proofs.Keeping.{stored}
use Rattle.store.proofs.Missing.{lowest_found}
use Rattle.store.proofs.lowest.lowest_missing.Goals as goal

pub overflow_add-low : goal.overflow_add-low
overflow_add-low g c = search (rules, stored)

pub loop-low-smaller : goal.loop-low-smaller
loop-low-smaller g c = search (rules, stored)

pub returns : goal.returns
returns g c =
    let m = g.S.Store.meaning c.args.store.now in
    let low = c.loop-low.low in
    let inv = c.loop-low.invariant in
    let here : Lowest c.args.start m.pairs low = record {
      from = inv.1;
      missing = ap (λ n. holds low n.pairs) (sym inv.0) ∙ sym c.has.ensures.answer ∙ c.loop-low-test.false;
      below = inv.2;
    } in
    record { lowest = here; value = lowest_found m c.args.start low (g.met.S.Store.sound c.args.store.now) here; same = c.has.ensures.same ∙ inv.0 }
