use Rattle.std.proofs.Common.{◌≡◌, ◌+◌, true, length, arith}
use Rattle.std.proofs.lemmas.Bool.{and_from}
use Rattle.wire.specs.Plain.{plain_packet}
use Rattle.wire.specs.Ranges.{packet_in_range, header_in_range, body_in_range}
use Rattle.wire.specs.Encoding.{body_length, encode}
use Rattle.answer.specs.declared.Refusal.TheVariants.{OutOfRange, ShortOutput}
use Rattle.wire.proofs.Chosen.{chosen_ok, no_room, some_room}
use Rattle.wire.proofs.Lengths.{length_encode}
use Rattle.wire.proofs.writing.check_write.Goals as goal

pub returns-then-out-size : goal.returns-then-out-size
returns-then-out-size c =
    let p = plain_packet c.args.packet.now in
    let body = chosen_ok (body_in_range p.body) (body_length p.body) c.in_ok-size.field-0 OutOfRange c.in_ok-size.ensures.is in
    let v : packet_in_range p ≡ true = and_from (header_in_range p.stream p.writer) (body_in_range p.body) (chosen_ok (header_in_range p.stream p.writer) tt tt OutOfRange c.in_ok-check_header.ensures).0 body.0 in
    no_room (packet_in_range p) (length c.args.out.now) (length (encode p)) ShortOutput OutOfRange v (omega (arith, length_encode p body.0, c.if-out-size.true))

pub returns : goal.returns
returns c =
    let p = plain_packet c.args.packet.now in
    let body = chosen_ok (body_in_range p.body) (body_length p.body) c.in_ok-size.field-0 OutOfRange c.in_ok-size.ensures.is in
    let v : packet_in_range p ≡ true = and_from (header_in_range p.stream p.writer) (body_in_range p.body) (chosen_ok (header_in_range p.stream p.writer) tt tt OutOfRange c.in_ok-check_header.ensures).0 body.0 in
    let size : length (encode p) ≡ 16 + body_length p.body = length_encode p body.0 in
    let fits = c.if-out-size.false in
    some_room (packet_in_range p) (length c.args.out.now) (length (encode p)) (16 + c.in_ok-size.field-0) ShortOutput OutOfRange v (omega arith) (omega arith)
