use Rattle.std.proofs.Common.{◌*◌, length, sym, refl, ap, ◌∙◌, arith}
use Rattle.std.proofs.lemmas.List.{length-append}
use Rattle.store.specs.Pairs.{holds}
use Rattle.memory.specs.Slots.{slot_count, slot, slots}
use Rattle.memory.proofs.RecordsLemmas.{found_body}
use Rattle.memory.proofs.SlotWalks.{alone, walk_step, walk_end, seek_more, seek_here}
use Rattle.memory.proofs.slots.scan.Goals as goal

pub loop-slot-init : goal.loop-slot-init
loop-slot-init c =
    let same = c.into_iter-slot-iterator.ensures.into_iter_gives in
    let e = c.chunks_exact-slot-items.ensures in
    (record { whole = ap (λ s. s.size) same ∙ e.size; here = ap (λ s. s.rest.now) same ∙ e.rest; within = omega arith }, refl)

pub payload_of-requires : goal.payload_of-requires
payload_of-requires c =
    let bs = c.args.bytes.now in
    let i = length c.loop-slot.yielded in
    let steps = c.in-Some.ensures.steps in
    let w = walk_step c.loop-slot.invariant.0 steps.1.0 steps.1.1 in
    omega (arith, (alone (slot i bs) _ w.is (c.requires.short i w.below)).len, c.requires.short i w.below, steps.1.1, c.loop-slot.invariant.0.whole)

pub returns-then-slot_holds : goal.returns-then-slot_holds
returns-then-slot_holds c =
    let bs = c.args.bytes.now in
    let n = c.args.number in
    let i = length c.loop-slot.yielded in
    let steps = c.in-Some.ensures.steps in
    let w = walk_step c.loop-slot.invariant.0 steps.1.0 steps.1.1 in
    let a = alone (slot i bs) _ w.is (c.requires.short i w.below) in
    let f = seek_here (slot_count bs) n i bs w.below (omega arith) c.requires.short c.requires.distinct (ap (holds n) (sym a.pairs) ∙ sym c.slot_holds.ensures ∙ c.if-slot_holds.true) in
    record { test = sym f.held; payload = c.payload_of.ensures ∙ a.body ∙ found_body (i * 518) bs ∙ f.payload }

pub loop-slot-preserved : goal.loop-slot-preserved
loop-slot-preserved c =
    let bs = c.args.bytes.now in
    let n = c.args.number in
    let i = length c.loop-slot.yielded in
    let steps = c.in-Some.ensures.steps in
    let w = walk_step c.loop-slot.invariant.0 steps.1.0 steps.1.1 in
    let a = alone (slot i bs) _ w.is (c.requires.short i w.below) in
    let none = seek_more n i bs c.loop-slot.invariant.1 (ap (holds n) (sym a.pairs) ∙ sym c.slot_holds.ensures ∙ c.if-slot_holds.false) in
    rw (length-append, steps.0) (w.next, none)

pub returns-clause-test : goal.returns-clause-test
returns-clause-test c =
    let bs = c.args.bytes.now in
    sym (ap (λ k. holds c.args.number (slots k bs)) (sym (walk_end c.loop-slot.invariant.0 c.in-None.ensures.steps.1.0)) ∙ c.loop-slot.invariant.1)
