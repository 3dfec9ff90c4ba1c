use Rattle.std.proofs.Common.{◌≡◌, ℕ, ◌<◌, ◌≤◌, true, false, cond, not, eqb, ltb, List, length, get_or, Ok, Err, Result, IfOk, OnOk, Bor, sym, ap, ◌∙◌}
use Rattle.std.proofs.lemmas.Bool.{le-ltb}
use Rattle.answer.specs.declared.Refusal.TheVariants.{ShortPacket, BadHeader, UnknownType, LengthMismatch}
use Rattle.answer.specs.declared.Refusal.{Refusal}
use Rattle.wire.specs.Decoding.{header_wrong, type_wrong, expected_length, ranged_packet, decode}
use Rattle.wire.specs.Encoding.{encode}
use Rattle.wire.specs.Laws.{canonical_packet, FlagsAsSent, SameButIgnored}
use Rattle.wire.specs.Plain.{plain_packet, plain_answer}
use Rattle.wire.specs.declared.packet.Message.{Message}
use Rattle.wire.proofs.Forth.{reads_canonical}
use Rattle.wire.proofs.Ignored.{flags_as_sent, same_but_ignored}
use Rattle.wire.proofs.Chosen.{past}
use Rattle.wire.proofs.reading.read.Goals as goal

-- what holds of an answer that is `decode`'s
canonical : (b : List ℕ) (r : Result (Message (Bor (List ℕ))) Refusal) → plain_answer r ≡ decode b → IfOk r (λ p. canonical_packet (plain_packet p) ≡ plain_packet p)
canonical b (Ok p) is = reads_canonical b (plain_packet p) (sym is)
canonical b (Err e) is = tt

as_sent : (b : List ℕ) (r : Result (Message (Bor (List ℕ))) Refusal) → plain_answer r ≡ decode b → OnOk r (FlagsAsSent b)
as_sent b (Ok p) is = flags_as_sent b (plain_packet p) (sym is)
as_sent b (Err e) is = tt

written_back : (b : List ℕ) (r : Result (Message (Bor (List ℕ))) Refusal) → ((i : ℕ) → get_or b i 0 < 256) → plain_answer r ≡ decode b → IfOk r (λ p. SameButIgnored b (encode (plain_packet p)))
written_back b (Ok p) bytes is = same_but_ignored b (plain_packet p) bytes (sym is)
written_back b (Err e) bytes is = tt

-- past the four first refusals
on : (b : List ℕ) (v : Result (Message (List ℕ)) Refusal) → 16 ≤ length b → false ≡ header_wrong b → false ≡ type_wrong b → true ≡ eqb (length b) (expected_length b)
    → cond (ltb (length b) 16) (Err ShortPacket) (cond (header_wrong b) (Err BadHeader) (cond (type_wrong b) (Err UnknownType) (cond (not (eqb (length b) (expected_length b))) (Err LengthMismatch) v))) ≡ v
on b v l h t w = past (ltb (length b) 16) (header_wrong b) (type_wrong b) (not (eqb (length b) (expected_length b))) (Err ShortPacket) (Err BadHeader) (Err UnknownType) (Err LengthMismatch) v (le-ltb (length b) 16 l) (sym h) (sym t) (ap not (sym w))

pub returns : goal.returns
returns c =
    let b = c.args.bytes.now in
    let is : plain_answer c.packet.result ≡ decode b = c.packet.ensures ∙ sym (on b _ c.if-bytes-lt16.false c.if-header_wrong.ensures c.if-type_wrong.ensures c.if-not-length_fits.ensures) in
    record { is = is; canonical = canonical b _ is; flags = as_sent b _ is; writes_back = written_back b _ (λ i. (c.type_inv.bytes i).fits) is }
