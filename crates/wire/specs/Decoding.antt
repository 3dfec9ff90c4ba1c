-- The packet that bytes mean, or the refusal that they meet. Assumes nothing.
use Rattle.std.specs.Prelude.{ℕ, ◌+◌, ◌-◌, ◌*◌, Bool, cond, not, ◌&&◌, ◌||◌, List, [], ◌∷◌, length, drop, Ok, Err, Result, ◌==◌, nat_lt, slice_index, slice_index_or}
use Rattle.answer.specs.declared.Refusal.{Refusal}
use Rattle.answer.specs.declared.Refusal.TheVariants.{ShortPacket, BadHeader, UnknownType, LengthMismatch, OutOfRange}
use Rattle.wire.specs.Encoding.{six_bytes}
use Rattle.wire.specs.Fields.{short_at, field_at}
use Rattle.wire.specs.Flags.{word_count, canonical_words}
use Rattle.wire.specs.Ranges.{body_in_range, packet_in_range}
use Rattle.wire.specs.declared.packet.Body.{Body}
use Rattle.wire.specs.declared.packet.Body.TheVariants.{Data, Retransmission, Hack as HackOf, JoinStream, JoinAck, JoinConfirm, LeaveStream, Heartbeat, NullData, Eject, Eos, HeartbeatResponse, LeaveConfirm}
use Rattle.wire.specs.declared.packet.Hack.{Hack}
use Rattle.wire.specs.declared.packet.Message.{Message}

-- by type, from 0 on, which is none: the length that the type and its counts ask for
abbrev pub lengths_by_type : List ℕ → List ℕ
lengths_by_type b = 0 ∷ (22 + short_at b 20) ∷ (22 + short_at b 20) ∷ (38 + 4 * short_at b 36) ∷ 20 ∷ 20 ∷ 26 ∷ 20 ∷ 20 ∷ 20 ∷ 20 ∷ 20 ∷ 24 ∷ 20 ∷ []

-- the HACK in the bytes, with the flags that a reader ignores set as a writer sets them
abbrev pub hack_at : List ℕ → Hack
hack_at b = record { term = field_at b 16; serial = field_at b 20; lsn = field_at b 24; hsn = field_at b 28; flags = canonical_words (field_at b 24) (field_at b 28) (λ i. field_at b (38 + 4 * i)) }

-- by type, from 0 on, which is none: the body that the bytes mean
abbrev pub bodies_by_type : List ℕ → List (Body (List ℕ))
bodies_by_type b =
    Heartbeat 0
    ∷ Data (field_at b 16) (drop 22 b)
    ∷ Retransmission (field_at b 16) (drop 22 b)
    ∷ HackOf (hack_at b)
    ∷ JoinStream (field_at b 16)
    ∷ JoinAck (field_at b 16)
    ∷ JoinConfirm (field_at b 16) (field_at b 20) (short_at b 24)
    ∷ LeaveStream (field_at b 16)
    ∷ Heartbeat (field_at b 16)
    ∷ NullData (field_at b 16)
    ∷ Eject (field_at b 16)
    ∷ Eos (field_at b 16)
    ∷ HeartbeatResponse (field_at b 16) (field_at b 20)
    ∷ LeaveConfirm (field_at b 16)
    ∷ []

abbrev pub type_at : List ℕ → ℕ
type_at b = slice_index b 1

abbrev pub expected_length : List ℕ → ℕ
expected_length b = slice_index (lengths_by_type b) (type_at b)

abbrev pub body_at : List ℕ → Body (List ℕ)
body_at b = slice_index_or (bodies_by_type b) (type_at b) (Heartbeat 0)

-- the packet in the bytes, whatever its fields are
abbrev pub packet_at : List ℕ → Message (List ℕ)
packet_at b = record { tree = record { 0 = six_bytes b 2 }; stream = short_at b 8; writer = short_at b 10; addressee = short_at b 12; body = body_at b }

-- a HACK has stable LSN - 1 and the word count that LSN and HSN ask for
abbrev pub hack_counts_agree : List ℕ → Bool
hack_counts_agree b = field_at b 32 == field_at b 24 - 1 && short_at b 36 == word_count (field_at b 24) (field_at b 28)

-- the same of any packet
abbrev pub counts_agree : List ℕ → Bool
counts_agree b = not (type_at b == 3) || hack_counts_agree b

-- byte 0 has version 2, option count 0 and a zero bit; bytes 14 and 15 are 0
abbrev pub header_wrong : List ℕ → Bool
header_wrong b = not (slice_index b 0 == 32) || (not (slice_index b 14 == 0) || not (slice_index b 15 == 0))

abbrev pub type_wrong : List ℕ → Bool
type_wrong b = type_at b == 0 || nat_lt 13 (type_at b)

-- the body, or the packet, unless a count or a field is wrong
abbrev pub ranged_body : List ℕ → Result (Body (List ℕ)) Refusal
ranged_body b = cond (counts_agree b && body_in_range (body_at b)) (Ok (body_at b)) (Err OutOfRange)

abbrev pub ranged_packet : List ℕ → Result (Message (List ℕ)) Refusal
ranged_packet b = cond (counts_agree b && packet_in_range (packet_at b)) (Ok (packet_at b)) (Err OutOfRange)

-- the packet that bytes mean, or the first refusal that applies
abbrev pub decode : List ℕ → Result (Message (List ℕ)) Refusal
decode b =
    cond (nat_lt (length b) 16) (Err ShortPacket)
    (cond (header_wrong b) (Err BadHeader)
    (cond (type_wrong b) (Err UnknownType)
    (cond (not (length b == expected_length b)) (Err LengthMismatch) (ranged_packet b))))
