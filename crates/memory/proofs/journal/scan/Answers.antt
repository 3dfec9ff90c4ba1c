use Rattle.std.proofs.Common.{sym, ◌∙◌, arith}
use Rattle.memory.proofs.RecordsLemmas.{rest_is}
use Rattle.memory.proofs.JournalWalks.{seeking_head, seeking_more, seeking_payload, seeking_all}
use Rattle.memory.proofs.journal.scan.Goals as goal

pub number_of-requires : goal.number_of-requires
number_of-requires c = omega (arith, seeking_head c.loop.invariant (omega (arith, c.loop-test.true)))

pub payload_of-requires : goal.payload_of-requires
payload_of-requires c = seeking_head c.loop.invariant (omega (arith, c.loop-test.true))

pub returns-then-number_of-number : goal.returns-then-number_of-number
returns-then-number_of-number c =
    let f = seeking_payload c.loop.invariant (omega (arith, c.loop-test.true)) (sym c.number_of.ensures ∙ c.if-number_of-number.true) in
    record { test = sym f.0; payload = c.payload_of.ensures ∙ f.1 }

pub length_of-requires : goal.length_of-requires
length_of-requires c = omega (arith, seeking_head c.loop.invariant (omega (arith, c.loop-test.true)))

pub slice_bounds-rest-start : goal.slice_bounds-rest-start
slice_bounds-rest-start c = omega (arith, seeking_head c.loop.invariant (omega (arith, c.loop-test.true)), c.length_of.ensures.value)

pub loop-preserved : goal.loop-preserved
loop-preserved c =
    rw (rest_is, c.length_of.ensures.value) (seeking_more c.loop.invariant (omega (arith, c.loop-test.true)) _ (omega arith) (λ e. c.if-number_of-number.false (c.number_of.ensures ∙ e)))

pub returns-clause-test : goal.returns-clause-test
returns-clause-test c = sym (seeking_all c.loop.invariant (omega (arith, c.loop-test.false, c.loop.auto.counter-end)))
