use Rattle.std.proofs.Common.{◌≡◌, ◌<◌, length, sym, refl, ap, subst, ◌∙◌, arith}
use Rattle.std.proofs.lemmas.Bool.{lt-ltb, le-ltb}
use Rattle.memory.specs.Records.{length_of}
use Rattle.memory.specs.Slots.{slot_count, slot, slots}
use Rattle.memory.proofs.SlotWalks.{alone_length, walk_step, walk_end, some_free, full_more}
use Rattle.memory.proofs.slots.scan_free.Goals as goal

pub loop-i-init : goal.loop-i-init
loop-i-init c =
    let same = c.into_iter-i-iterator.ensures.into_iter_gives in
    let from = c.enumerate-i-items.ensures in
    let e = c.chunks_exact.ensures in
    let zero = ap (λ s. s.count) same ∙ from.count in
    rw zero (record { whole = ap (λ s. s.iter.size) same ∙ ap (λ s. s.size) from.source ∙ e.size; here = ap (λ s. s.iter.rest.now) same ∙ ap (λ s. s.rest.now) from.source ∙ e.rest; within = omega arith }, refl)

pub returns-then-length_of-eq0 : goal.returns-then-length_of-eq0
returns-then-length_of-eq0 c =
    let bs = c.args.bytes.now in
    let i = c.loop-i.i-iterator.count in
    let steps = c.in-Some.ensures.steps in
    let w = walk_step c.loop-i.invariant.0 steps.0.1.0 steps.0.1.1 in
    let e = sym (alone_length (slot i bs) _ w.is) ∙ sym c.length_of.ensures.value ∙ c.if-length_of-eq0.true in
    record {
      test = sym (lt-ltb (length (slots (slot_count bs) bs)) (slot_count bs) (some_free (slot_count bs) i bs w.below e));
      place = rw steps.1 (w.below, e);
    }

pub loop-i-preserved : goal.loop-i-preserved
loop-i-preserved c =
    let bs = c.args.bytes.now in
    let i = c.loop-i.i-iterator.count in
    let steps = c.in-Some.ensures.steps in
    let w = walk_step c.loop-i.invariant.0 steps.0.1.0 steps.0.1.1 in
    let pos : 0 < length_of (slot i bs) = omega (arith, alone_length (slot i bs) _ w.is, c.length_of.ensures.value, c.if-length_of-eq0.false) in
    rw (steps.2, steps.0.0) (w.next, full_more i bs c.loop-i.invariant.1 pos)

pub returns-clause-test : goal.returns-clause-test
returns-clause-test c =
    let bs = c.args.bytes.now in
    let all : c.loop-i.i-iterator.count ≡ slot_count bs = walk_end c.loop-i.invariant.0 c.in-None.ensures.steps.0.1.0 in
    let full = subst (λ k. length (slots k bs) ≡ k) all c.loop-i.invariant.1 in
    sym (le-ltb (length (slots (slot_count bs) bs)) (slot_count bs) (omega (arith, full)))
