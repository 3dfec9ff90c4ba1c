use Rattle.std.proofs.Common.{sym, ◌∙◌, ap}
use Rattle.std.proofs.lemmas.Result.{err_from_is_err_and}
use Rattle.answer.specs.declared.Refusal.TheVariants.{OutOfRange}
use Rattle.wire.specs.Fields.{short_at}
use Rattle.wire.specs.Plain.{plain_body_answer}
use Rattle.wire.specs.Ranges.{header_in_range, body_in_range}
use Rattle.wire.specs.Decoding.{counts_agree, body_at, packet_at}
use Rattle.wire.proofs.Chosen.{err_larger, chosen_ok}
use Rattle.wire.proofs.framed.Framed.packet.Goals as goal

pub returns-in_err-body : goal.returns-in_err-body
returns-in_err-body c =
    let b = c.args.self.bytes.now in
    let p = err_from_is_err_and c.from_residual-in_err-body.result c.from_residual-in_err-body.ensures.1 in
    rw (p.1, p.2)
    (err_larger (counts_agree b) (header_in_range (short_at b 8) (short_at b 10)) (body_in_range (body_at b)) (body_at b) (packet_at b) OutOfRange c.in_err-body.field-0.0
    (sym (λ i. header_in_range (c.u16_at-stream.ensures i) (c.u16_at-writer.ensures i)) ∙ (chosen_ok (header_in_range c.u16_at-stream.result c.u16_at-writer.result) tt tt OutOfRange c.in_ok-check_header.ensures).0)
    (sym (ap plain_body_answer c.in_err-body.was) ∙ c.body.ensures))
