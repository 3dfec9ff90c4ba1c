-- Who a node is on the channel: which packets are for it, and what it writes. Assumes nothing.
use Rattle.std.specs.Prelude.{ℕ, Bool, true, false, cond, not, ◌&&◌, ◌||◌, List, [], ◌∷◌, Some, None, Ok, Err, Option, Result, ◌==◌, nat_le, nat_lt}
use Rattle.std.specs.declared.convert.Infallible.{Infallible}
use Rattle.answer.specs.declared.Refusal.{Refusal}
use Rattle.answer.specs.declared.Refusal.TheVariants.{OtherStream, OtherAddressee}
use Rattle.wire.specs.Encoding.{encode, write_answer, buffer_after}
use Rattle.wire.specs.Plain.{bare_packet}
use Rattle.wire.specs.Ranges.{packet_in_range}
use Rattle.wire.specs.declared.packet.Body.{Body}
use Rattle.wire.specs.declared.packet.Message.{Message}
use Rattle.address.specs.declared.Address.{Address}

-- a node can have this address and speak with another: the StreamID is at least 32,768, and the two numbers differ, and
-- neither is 0
abbrev pub good_beside : Address → ℕ → Bool
good_beside a other = nat_le 32768 a.stream && (nat_lt 0 a.number && (nat_lt 0 other && not (a.number == other)))

abbrev pub same_bytes : List ℕ → List ℕ → Bool
same_bytes [] [] = true
same_bytes [] (y ∷ ys) = false
same_bytes (x ∷ xs) [] = false
same_bytes (x ∷ xs) (y ∷ ys) = x == y && same_bytes xs ys

-- a packet of the node's tree and stream
abbrev pub same_stream : Address → Message (List ℕ) → Bool
same_stream a p = same_bytes p.tree.0 a.tree.0 && p.stream == a.stream

-- for all, or for this node
abbrev pub for_node : Address → Message (List ℕ) → Bool
for_node a p = p.addressee == 0 || p.addressee == a.number

-- the stream first, then the addressee
abbrev pub address_answer : Address → Message (List ℕ) → Result (Unit {0}) Refusal
address_answer a p = cond (same_stream a p) (cond (for_node a p) (Ok tt) (Err OtherAddressee)) (Err OtherStream)

-- a packet of this node, to a node or, with 0, to all
abbrev pub packet_of : Address → ℕ → Body Infallible → Message (List ℕ)
packet_of a to b = bare_packet a.tree a.stream a.number to b

-- what writing a packet answers
abbrev pub written : Message (List ℕ) → List ℕ → Result ℕ Refusal
written p out = write_answer (packet_in_range p) (encode p) out

-- the reply in the caller's buffer, and its length; a reply out of range, which no node that was made rightly has, is left out
abbrev pub length_of : Result ℕ Refusal → ℕ
length_of (Ok n) = n
length_of (Err e) = 0

abbrev pub reply_length : Address → ℕ → Option (Body Infallible) → List ℕ → ℕ
reply_length a to None out = 0
reply_length a to (Some b) out = length_of (written (packet_of a to b) out)

abbrev pub reply_buffer : Address → ℕ → Option (Body Infallible) → List ℕ → List ℕ
reply_buffer a to None out = out
reply_buffer a to (Some b) out = buffer_after (written (packet_of a to b) out) (encode (packet_of a to b)) out
