use Rattle.std.proofs.Common.{◌*◌, ◌%◌, ◌&&◌, eqb, [], ap, ◌∙◌, arith}
use Rattle.memory.specs.Records.{number_of, length_of}
use Rattle.memory.specs.Slots.{slot_count}
use Rattle.memory.specs.Lengths.{length_slots}
use Rattle.memory.proofs.RecordsLemmas.{rest_is}
use Rattle.memory.proofs.SlotWalks.{written, freeing_free, freeing_keep, freeing_drop}
use Rattle.memory.proofs.slots.free_through.Goals as goal
use Rattle.memory.proofs.slots.free_through.Goals.{then-length_of-gt0+then-held-number, then-length_of-gt0+else-held-number, else-length_of-gt0}

pub overflow_add-used : goal.overflow_add-used
overflow_add-used c = omega (arith, c.loop-i.invariant.counted, length_slots c.loop-i.i c.loop-i.bytes)

pub loop-i-preserved : goal.loop-i-preserved
loop-i-preserved c =
    let bs = c.loop-i.bytes in
    let count = slot_count c.args.bytes.now in
    let s = c.loop-i.invariant in
    let here = rest_is (c.loop-i.i * 518) bs in
    let len = c.length_of.ensures.value ∙ ap length_of here in
    elim c.if-length_of-gt0.branch [
      | then-length_of-gt0+then-held-number w ↦
          let wr = written bs w.write_record.new.bytes count c.loop-i.i 0 [] c.loop-i-test.true (omega (arith, s.long)) (omega arith) (omega arith) w.write_record.ensures in
          rw (w.bytes-is, w.used-is, w.homed-is) (freeing_drop s w.write_record.new.bytes c.loop-i-test.true wr (omega (arith, len, w.if-length_of-gt0.true)) (omega (arith, w.number_of-held.ensures ∙ ap number_of here, w.if-held-number.true)))
      | then-length_of-gt0+else-held-number w ↦
          rw (w.bytes-is, w.used-is, w.homed-is) (freeing_keep s (omega (arith, len, w.if-length_of-gt0.true)) (omega (arith, w.number_of-held.ensures ∙ ap number_of here, w.if-held-number.false)) _ (ap (λ k. c.loop-i.homed && eqb k c.loop-i.i) (w.home.ensures ∙ ap (λ n. n % count) (w.number_of-held.ensures ∙ ap number_of here))))
      | else-length_of-gt0 w ↦ rw (w.bytes-is, w.used-is, w.homed-is) (freeing_free s (omega (arith, len, w.if-length_of-gt0.false)))
    ]
