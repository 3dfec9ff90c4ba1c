use Rattle.std.proofs.Common.{◌≡◌, ◌+◌, ◌-◌, drop, ap, ◌∙◌, arith}
use lib.Seq.{paste}
use Rattle.memory.specs.Records.{number_of, length_of, size_of}
use Rattle.memory.proofs.RecordsLemmas.{rest_is}
use Rattle.memory.proofs.JournalWalks.{packing_head, packing_skip, packing_move, packing_all}
use Rattle.memory.proofs.journal.compact.Goals as goal
use Rattle.memory.proofs.journal.compact.Goals.{then-number_of-number, else-number_of-number}

pub length_of-size-requires : goal.length_of-size-requires
length_of-size-requires c = omega (arith, packing_head c.loop.invariant (omega (arith, c.loop-test.true)))

pub number_of-requires : goal.number_of-requires
number_of-requires c = omega (arith, packing_head c.loop.invariant (omega (arith, c.loop-test.true)))

pub move_down-requires : goal.move_down-requires
move_down-requires c =
    let h = packing_head c.loop.invariant (omega (arith, c.loop-test.true)) in
    let e = c.length_of-size.ensures.value ∙ ap length_of (rest_is c.loop.from c.loop.bytes) in
    let b = c.loop.invariant.behind in
    record { within = omega arith; down = b }

pub loop-preserved : goal.loop-preserved
loop-preserved c =
    let bs = c.loop.bytes in
    let xs = drop c.loop.from bs in
    let e : c.length_of-size.result ≡ length_of xs = c.length_of-size.ensures.value ∙ ap length_of (rest_is c.loop.from bs) in
    let n = c.number_of.ensures ∙ ap number_of (rest_is c.loop.from bs) in
    elim c.if-number_of-number.branch [
      | then-number_of-number w ↦
          let size : 6 + c.length_of-size.result ≡ size_of xs = omega arith in
          let is = w.move_down.ensures ∙ ap (paste bs c.loop.to xs) size in
          rw (w.bytes-is, w.stays-is, w.to-is, e) (packing_move c.loop.invariant w.move_down.new.bytes (omega (arith, c.loop-test.true)) _ (omega arith) (omega (arith, w.if-number_of-number.true)) is)
      | else-number_of-number w ↦
          rw (w.bytes-is, w.stays-is, w.to-is, e) (packing_skip c.loop.invariant (omega (arith, c.loop-test.true)) _ (omega arith) (omega (arith, w.if-number_of-number.false)))
    ]

pub returns : goal.returns
returns c =
    let s = c.loop.invariant in
    let done : c.args.count - c.loop.counter ≡ 0 = omega (arith, c.loop-test.false, c.loop.auto.counter-end) in
    record {
      stay = packing_all s done;
      end = s.end;
      within = omega (arith, s.behind, s.fits, s.long);
      fewer = omega (arith, s.fewer);
      still = λ e. (s.still (omega arith)).1;
    }
