-- Which bytes a packet is written as. Assumes nothing.
use Rattle.std.specs.Prelude.{ℕ, ◌+◌, ◌-◌, ◌*◌, Bool, cond, List, [], ◌∷◌, ◌++◌, length, take, Ok, Err, Result, nat_lt, slice_index}
use Rattle.std.specs.List.{flat_map}
use Rattle.answer.specs.declared.Refusal.{Refusal}
use Rattle.answer.specs.declared.Refusal.TheVariants.{OutOfRange, ShortOutput}
use Rattle.wire.specs.Fields.{short_bytes, field_bytes, overwrite}
use Rattle.wire.specs.Flags.{word_count, canonical_words}
use Rattle.wire.specs.declared.packet.Body.{Body}
use Rattle.wire.specs.declared.packet.Body.TheVariants.{Data, Retransmission, Hack as HackOf, JoinStream, JoinAck, JoinConfirm, LeaveStream, Heartbeat, NullData, Eject, Eos, HeartbeatResponse, LeaveConfirm}
use Rattle.wire.specs.declared.packet.Hack.{Hack}
use Rattle.wire.specs.declared.packet.Message.{Message}

-- the type of a body
abbrev pub type_of : Body (List ℕ) → ℕ
type_of (Data n p) = 1
type_of (Retransmission n p) = 2
type_of (HackOf h) = 3
type_of (JoinStream t) = 4
type_of (JoinAck t) = 5
type_of (JoinConfirm t s l) = 6
type_of (LeaveStream t) = 7
type_of (Heartbeat k) = 8
type_of (NullData n) = 9
type_of (Eject t) = 10
type_of (Eos n) = 11
type_of (HeartbeatResponse t k) = 12
type_of (LeaveConfirm t) = 13

-- number, payload length, payload
abbrev pub payload_bytes : ℕ → List ℕ → List ℕ
payload_bytes n p = field_bytes n ++ (short_bytes (length p) ++ p)

-- the flag words that LSN and HSN ask for, with the positions before LSN set to 1 and those after HSN to 0
abbrev pub hack_words : Hack → List ℕ
hack_words h = take (word_count h.lsn h.hsn) (canonical_words h.lsn h.hsn (λ i. slice_index h.flags i))

-- term, serial, LSN, HSN, stable, word count, words
abbrev pub hack_bytes : Hack → List ℕ
hack_bytes h = field_bytes h.term ++ (field_bytes h.serial ++ (field_bytes h.lsn ++ (field_bytes h.hsn ++ (field_bytes (h.lsn - 1) ++ (short_bytes (word_count h.lsn h.hsn) ++ flat_map field_bytes (hack_words h))))))

-- the body, from byte 16 on
abbrev pub body_bytes : Body (List ℕ) → List ℕ
body_bytes (Data n p) = payload_bytes n p
body_bytes (Retransmission n p) = payload_bytes n p
body_bytes (HackOf h) = hack_bytes h
body_bytes (JoinStream t) = field_bytes t
body_bytes (JoinAck t) = field_bytes t
body_bytes (JoinConfirm t s l) = field_bytes t ++ (field_bytes s ++ short_bytes l)
body_bytes (LeaveStream t) = field_bytes t
body_bytes (Heartbeat k) = field_bytes k
body_bytes (NullData n) = field_bytes n
body_bytes (Eject t) = field_bytes t
body_bytes (Eos n) = field_bytes n
body_bytes (HeartbeatResponse t k) = field_bytes t ++ field_bytes k
body_bytes (LeaveConfirm t) = field_bytes t

-- how many bytes those are
abbrev pub body_length : Body (List ℕ) → ℕ
body_length (Data n p) = 6 + length p
body_length (Retransmission n p) = 6 + length p
body_length (HackOf h) = 22 + 4 * word_count h.lsn h.hsn
body_length (JoinStream t) = 4
body_length (JoinAck t) = 4
body_length (JoinConfirm t s l) = 10
body_length (LeaveStream t) = 4
body_length (Heartbeat k) = 4
body_length (NullData n) = 4
body_length (Eject t) = 4
body_length (Eos n) = 4
body_length (HeartbeatResponse t k) = 8
body_length (LeaveConfirm t) = 4

-- the six bytes from place i on
abbrev pub six_bytes : List ℕ → ℕ → List ℕ
six_bytes b i = slice_index b i ∷ slice_index b (i + 1) ∷ slice_index b (i + 2) ∷ slice_index b (i + 3) ∷ slice_index b (i + 4) ∷ slice_index b (i + 5) ∷ []

-- version and option count, type, Tree ID, StreamID, writer, addressee, two zeros
abbrev pub header_bytes : Message (List ℕ) → List ℕ
header_bytes p = 32 ∷ type_of p.body ∷ (six_bytes p.tree.0 0 ++ (short_bytes p.stream ++ (short_bytes p.writer ++ (short_bytes p.addressee ++ (0 ∷ 0 ∷ [])))))

-- the bytes of a packet
abbrev pub encode : Message (List ℕ) → List ℕ
encode p = header_bytes p ++ body_bytes p.body

-- writing a list to the front of a buffer, where the value may be out of range: the answer, and what the buffer then holds
abbrev pub write_answer : Bool → List ℕ → List ℕ → Result ℕ Refusal
write_answer good xs out = cond good (cond (nat_lt (length out) (length xs)) (Err ShortOutput) (Ok (length xs))) (Err OutOfRange)

abbrev pub buffer_after : Result ℕ Refusal → List ℕ → List ℕ → List ℕ
buffer_after (Ok n) xs out = overwrite 0 xs out
buffer_after (Err e) xs out = out
