use Rattle.std.proofs.Common.{◌≡◌, ℕ, ◌+◌, ◌≤◌, true, List, length, take, Ok, sym, ap, ◌∙◌, arith}
use Rattle.std.proofs.lemmas.Bool.{and_parts}
use Rattle.wire.specs.Plain.{plain_packet}
use Rattle.wire.specs.Ranges.{packet_in_range, header_in_range, body_in_range}
use Rattle.wire.specs.Encoding.{body_length, body_bytes, header_bytes, encode, write_answer}
use Rattle.wire.specs.Decoding.{decode}
use Rattle.wire.specs.Fields.{short_bytes}
use Rattle.wire.specs.declared.packet.Message.{Message}
use Rattle.answer.specs.declared.Refusal.TheVariants.{OutOfRange, ShortOutput}
use Rattle.wire.proofs.Chosen.{had_room}
use Rattle.wire.proofs.Lengths.{length_encode, length_header}
use Rattle.wire.proofs.Overwrites.{overwrite_next, take_overwrite}
use Rattle.wire.proofs.Back.{reads_back}
use Rattle.wire.proofs.writing.write.Goals as goal

-- what the check says where it answers a length
record Room (p : Message (List ℕ)) (out : List ℕ) (size : ℕ) : Type 0 where
  good : packet_in_range p ≡ true
  in_body : body_in_range p.body ≡ true
  all : size ≡ length (encode p)
  long : length (encode p) ≡ 16 + body_length p.body
  room : length (encode p) ≤ length out

room_for : (p : Message (List ℕ)) (out : List ℕ) (size : ℕ) → Ok size ≡ write_answer (packet_in_range p) (encode p) out → Room p out size
room_for p out size h =
    let r = had_room (packet_in_range p) (length out) (length (encode p)) size ShortOutput OutOfRange h in
    let b = (and_parts (header_in_range p.stream p.writer) (body_in_range p.body) r.0).1 in
    record { good = r.0; in_body = b; all = r.2; long = length_encode p b; room = r.1 }

pub write_header-requires : goal.write_header-requires
write_header-requires c =
    let r = room_for (plain_packet c.args.packet.now) c.args.out.now c.in_ok-size.size c.in_ok-size.ensures in
    omega arith

pub write_body-requires : goal.write_body-requires
write_body-requires c =
    let r = room_for (plain_packet c.args.packet.now) c.args.out.now c.in_ok-size.size c.in_ok-size.ensures in
    record { ranged = r.in_body; room = omega (arith, c.write_header.auto.out) }

pub returns : goal.returns
unfolding short_bytes
returns c =
    let p = plain_packet c.args.packet.now in
    let out = c.args.out.now in
    let size = c.in_ok-size.size in
    let r = room_for p out size c.in_ok-size.ensures in
    let after = overwrite_next 0 16 (header_bytes p) (body_bytes p.body) out c.write_header.ensures.after c.write_body.ensures.after (sym (length_header p)) (omega (arith, length_header p)) in
    record {
      answer = c.in_ok-size.ensures;
      reads_back = ap decode (ap (take size) after ∙ take_overwrite (encode p) out size r.all) ∙ reads_back p c.write_header.ensures.typed c.write_body.ensures.typed r.good;
      buffer = after;
    }
