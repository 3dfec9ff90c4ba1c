-- What reading and writing do to one another: each undoes the other but for the flags that a reader ignores. Assumes nothing.
use Rattle.std.specs.Prelude.{◌≡◌, ℕ, ◌+◌, ◌*◌, ◌%◌, ◌^◌, ◌<◌, ◌≤◌, List, length, ◌==◌, slice_index}
use Rattle.wire.specs.Decoding.{type_at, hack_at}
use Rattle.wire.specs.Fields.{field_at}
use Rattle.wire.specs.Flags.{flag_at, word_of, word_count, held_by, canonical_words, Canonical}
use Rattle.wire.specs.Plain.{map_body}
use Rattle.wire.specs.declared.packet.Hack.{Hack}
use Rattle.wire.specs.declared.packet.Body.{Body}
use Rattle.wire.specs.declared.packet.Body.TheVariants.{Data, Retransmission, Hack as HackOf, JoinStream, JoinAck, JoinConfirm, LeaveStream, Heartbeat, NullData, Eject, Eos, HeartbeatResponse, LeaveConfirm}
use Rattle.wire.specs.declared.packet.Message.{Message}

-- each field fits the width that it has in a packet
abbrev pub HackFits : Hack → Type 0
HackFits h = (h.term < 2 ^ 32) × (h.serial < 2 ^ 32) × (h.lsn < 2 ^ 32) × (h.hsn < 2 ^ 32)

abbrev pub BodyFits : Body (List ℕ) → Type 0
BodyFits (Data n p) = n < 2 ^ 32
BodyFits (Retransmission n p) = n < 2 ^ 32
BodyFits (HackOf h) = HackFits h
BodyFits (JoinStream t) = t < 2 ^ 32
BodyFits (JoinAck t) = t < 2 ^ 32
BodyFits (JoinConfirm t s l) = (t < 2 ^ 32) × (s < 2 ^ 32) × (l < 2 ^ 16)
BodyFits (LeaveStream t) = t < 2 ^ 32
BodyFits (Heartbeat k) = k < 2 ^ 32
BodyFits (NullData n) = n < 2 ^ 32
BodyFits (Eject t) = t < 2 ^ 32
BodyFits (Eos n) = n < 2 ^ 32
BodyFits (HeartbeatResponse t k) = (t < 2 ^ 32) × (k < 2 ^ 32)
BodyFits (LeaveConfirm t) = t < 2 ^ 32

pub record HeaderFits (p : Message (List ℕ)) : Type 0 where
  pub tree : length p.tree.0 ≡ 6
  pub stream : p.stream < 2 ^ 16
  pub writer : p.writer < 2 ^ 16
  pub addressee : p.addressee < 2 ^ 16

-- a packet with the flags outside LSN to HSN set as a writer sets them
abbrev pub canonical_hack : Hack → Hack
canonical_hack h = record { term = h.term; serial = h.serial; lsn = h.lsn; hsn = h.hsn; flags = canonical_words h.lsn h.hsn (λ i. slice_index h.flags i) }

abbrev pub canonical_body : Body (List ℕ) → Body (List ℕ)
canonical_body x = map_body (λ p. p) canonical_hack x

abbrev pub canonical_packet : Message (List ℕ) → Message (List ℕ)
canonical_packet p = record { tree = p.tree; stream = p.stream; writer = p.writer; addressee = p.addressee; body = canonical_body p.body }

-- bytes c that differ from b, the bytes of a packet, in ignored flags alone, and have these set as a writer sets them
pub record SameButIgnored (b c : List ℕ) : Type 0 where
  pub long : length c ≡ length b
  pub bytes : (i : ℕ) → (type_at b ≡ 3 → i < 38) → slice_index c i ≡ slice_index b i
  pub words : type_at b ≡ 3 → (i : ℕ) → i < word_count (field_at b 24) (field_at b 28) → Canonical (field_at b 24) (field_at b 28) i (field_at b (38 + 4 * i)) (field_at c (38 + 4 * i))

-- what a HACK in the bytes b holds of LSN to HSN is told by the flags that stand in b
abbrev pub FlagsAsSent : List ℕ → Type 0
FlagsAsSent b = type_at b ≡ 3 → (n : ℕ) → field_at b 24 ≤ n → n ≤ field_at b 28 → held_by (hack_at b) n ≡ (flag_at (field_at b (38 + 4 * word_of (field_at b 24) n)) (n % 32) == 1)
