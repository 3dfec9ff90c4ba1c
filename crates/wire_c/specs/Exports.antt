-- What the exported calls answer, each as one number. Assumes nothing.
use Rattle.std.specs.Prelude.{ℕ, ◌*◌, ◌^◌, List, [], ◌∷◌, length, Ok, Err, Result, bit_xor, slice_index}
use Rattle.answer.specs.Refusals.{refusal_number}
use Rattle.answer.specs.declared.Refusal.{Refusal}
use Rattle.wire.specs.declared.packet.Body.{Body}
use Rattle.wire.specs.declared.packet.Body.TheVariants.{Data, Retransmission, Hack as HackOf, JoinStream, JoinAck, JoinConfirm, LeaveStream, Heartbeat, NullData, Eject, Eos, HeartbeatResponse, LeaveConfirm}
use Rattle.wire.specs.declared.packet.Hack.{Hack}
use Rattle.wire.specs.declared.packet.Message.{Message}
use Rattle.wire.specs.Encoding.{encode, write_answer, buffer_after}
use Rattle.wire.specs.Ranges.{packet_in_range}
use Rattle.wire_c.specs.declared.Report.{Report}

-- a number that hangs on each field of a body but the payload's bytes and the inner flag words
abbrev pub body_digest : Body (List ℕ) → ℕ
body_digest (Data n p) = bit_xor n (length p)
body_digest (Retransmission n p) = bit_xor n (length p)
body_digest (HackOf h) = bit_xor (bit_xor (bit_xor (bit_xor (bit_xor h.term h.serial) h.lsn) h.hsn) (slice_index h.flags 0)) (slice_index h.flags 8)
body_digest (JoinStream t) = t
body_digest (JoinAck t) = t
body_digest (JoinConfirm t s l) = bit_xor (bit_xor t s) l
body_digest (LeaveStream t) = t
body_digest (Heartbeat k) = k
body_digest (NullData n) = n
body_digest (Eject t) = t
body_digest (Eos n) = n
body_digest (HeartbeatResponse t k) = bit_xor t k
body_digest (LeaveConfirm t) = t

abbrev pub packet_digest : Message (List ℕ) → ℕ
packet_digest p = bit_xor (bit_xor (bit_xor p.stream (p.writer * 2 ^ 16)) (p.addressee * 2 ^ 32)) (body_digest p.body)

-- the digest of a packet, or the number of the refusal
abbrev pub read_number : Result (Message (List ℕ)) Refusal → ℕ
read_number (Ok p) = packet_digest p
read_number (Err e) = refusal_number e

-- how many bytes were written, or the number of the refusal
abbrev pub write_number : Result ℕ Refusal → ℕ
write_number (Ok n) = n
write_number (Err e) = refusal_number e

-- the answer of writing a packet, and what the buffer then holds
abbrev pub packet_answer : Message (List ℕ) → List ℕ → Result ℕ Refusal
packet_answer p out = write_answer (packet_in_range p) (encode p) out

abbrev pub packet_after : Message (List ℕ) → List ℕ → List ℕ
packet_after p out = buffer_after (packet_answer p out) (encode p) out

-- the same, where the packet is first read
abbrev pub rewrite_number : Result (Message (List ℕ)) Refusal → List ℕ → ℕ
rewrite_number (Ok p) out = write_number (packet_answer p out)
rewrite_number (Err e) out = refusal_number e

abbrev pub rewrite_after : Result (Message (List ℕ)) Refusal → List ℕ → List ℕ
rewrite_after (Ok p) out = packet_after p out
rewrite_after (Err e) out = out

-- a packet from a writer to node 9, on stream 40000 of a fixed tree
abbrev pub packet_from : ℕ → Body (List ℕ) → Message (List ℕ)
packet_from writer x = record { tree = record { 0 = 1 ∷ 2 ∷ 3 ∷ 4 ∷ 5 ∷ 6 ∷ [] }; stream = 40000; writer = writer; addressee = 9; body = x }

abbrev pub hack_of : Report → Hack
hack_of r = record { term = r.term; serial = r.serial; lsn = r.lsn; hsn = r.hsn; flags = r.flags }
