-- Which values the fields of a packet may have. Assumes nothing.
use Rattle.std.specs.Prelude.{ℕ, ◌+◌, ◌%◌, Bool, true, ◌&&◌, ◌||◌, List, length, ◌==◌, nat_le, nat_lt, slice_index}
use Rattle.wire.specs.Flags.{flag_at}
use Rattle.wire.specs.declared.packet.Body.{Body}
use Rattle.wire.specs.declared.packet.Body.TheVariants.{Data, Retransmission, Hack as HackOf, JoinStream, JoinAck, JoinConfirm, LeaveStream, Heartbeat, NullData, Eject, Eos, HeartbeatResponse, LeaveConfirm}
use Rattle.wire.specs.declared.packet.Hack.{Hack}
use Rattle.wire.specs.declared.packet.Message.{Message}

-- a term, a serial, a start or an LSN
abbrev pub at_least_one : ℕ → Bool
at_least_one n = nat_lt 0 n

-- the number of a payload, 1 to 4,294,967,294, and its length, 1 to 512
abbrev pub payload_in_range : ℕ → ℕ → Bool
payload_in_range n size = at_least_one n && (nat_lt n 4294967295 && (at_least_one size && nat_le size 512))

-- HSN lies from LSN - 1 to LSN + 255, and is no larger than a payload's number
abbrev pub span_in_range : ℕ → ℕ → Bool
span_in_range lsn hsn = at_least_one lsn && (nat_lt hsn 4294967295 && (nat_le lsn (hsn + 1) && nat_le hsn (lsn + 255)))

abbrev pub hack_fields_in_range : ℕ → ℕ → ℕ → ℕ → Bool
hack_fields_in_range term serial lsn hsn = at_least_one term && (at_least_one serial && span_in_range lsn hsn)

-- the flag of LSN, where there is one, is 0
abbrev pub low_flag_clear : ℕ → ℕ → ℕ → Bool
low_flag_clear lsn hsn w = nat_lt hsn lsn || flag_at w (lsn % 32) == 0

abbrev pub hack_in_range : Hack → Bool
hack_in_range h = hack_fields_in_range h.term h.serial h.lsn h.hsn && low_flag_clear h.lsn h.hsn (slice_index h.flags 0)

-- a slot is at most 15, a highest number at most 4,294,967,294, a clock anything
abbrev pub body_in_range : Body (List ℕ) → Bool
body_in_range (Data n p) = payload_in_range n (length p)
body_in_range (Retransmission n p) = payload_in_range n (length p)
body_in_range (HackOf h) = hack_in_range h
body_in_range (JoinStream t) = at_least_one t
body_in_range (JoinAck t) = at_least_one t
body_in_range (JoinConfirm t s l) = at_least_one t && (at_least_one s && nat_le l 15)
body_in_range (LeaveStream t) = at_least_one t
body_in_range (Heartbeat k) = true
body_in_range (NullData n) = nat_lt n 4294967295
body_in_range (Eject t) = at_least_one t
body_in_range (Eos n) = nat_lt n 4294967295
body_in_range (HeartbeatResponse t k) = at_least_one t
body_in_range (LeaveConfirm t) = at_least_one t

-- the StreamID is at least 32768, and the writer is not 0
abbrev pub header_in_range : ℕ → ℕ → Bool
header_in_range stream writer = nat_le 32768 stream && at_least_one writer

abbrev pub packet_in_range : Message (List ℕ) → Bool
packet_in_range p = header_in_range p.stream p.writer && body_in_range p.body
