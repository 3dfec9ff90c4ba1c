use Rattle.std.proofs.Common.{length, refl, arith}
use Rattle.answer.specs.declared.Refusal.TheVariants.{OutOfRange, ShortOutput}
use Rattle.wire.specs.Flags.{missing_numbers}
use Rattle.wire.specs.Ranges.{hack_in_range}
use Rattle.wire.proofs.Chosen.{no_room, some_room}
use Rattle.wire.proofs.packet.Hack.missing.Goals as goal

pub returns-then-numbers-count : goal.returns-then-numbers-count
returns-then-numbers-count c =
    let h = c.args.self.now in
    record {
      answer = no_room (hack_in_range h) (length c.args.numbers.now) (length (missing_numbers h)) ShortOutput OutOfRange c.in_ok-span.ensures.2 (omega (arith, c.count_missing-count.ensures, c.if-numbers-count.true));
      buffer = refl;
    }

pub returns : goal.returns
returns c =
    let h = c.args.self.now in
    record {
      answer = some_room (hack_in_range h) (length c.args.numbers.now) (length (missing_numbers h)) c.count_missing-count.result ShortOutput OutOfRange c.in_ok-span.ensures.2 c.count_missing-count.ensures (omega (arith, c.count_missing-count.ensures, c.if-numbers-count.false));
      buffer = c.write_missing.ensures;
    }
