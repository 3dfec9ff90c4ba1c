-- What deliver does at a node of any kind, over what the node takes and what it makes of it. Assumes nothing.
use Rattle.std.specs.Prelude.{ℕ, Bool, cond, List, length, Some, None, Ok, Err, Option, Result, nat_lt}
use Rattle.std.specs.declared.convert.Infallible.{Infallible}
use Rattle.answer.specs.declared.Refusal.{Refusal}
use Rattle.answer.specs.declared.Refusal.TheVariants.{NotTaken, ShortOutput}
use Rattle.answer.specs.declared.Outcome.{Outcome}
use Rattle.answer.specs.declared.Outcome.TheVariants.{Stale}
use Rattle.answer.specs.declared.Delivered.{Delivered}
use Rattle.wire.specs.declared.packet.Body.{Body}
use Rattle.wire.specs.declared.packet.Message.{Message}
use Rattle.address.specs.declared.Address.{Address}
use Rattle.address.specs.Addresses.{address_answer, reply_length, reply_buffer}

-- what a packet that is let in makes of the node, the answer, and the reply to its writer
pub record Acceptance (N : Type 0) : Type 0 where
  pub node : N
  pub outcome : Outcome
  pub reply : Option (Body Infallible)

abbrev pub unchanged : {N : Type 0} → N → Acceptance N
unchanged n = record { node = n; outcome = Stale; reply = None }

-- past the address: what the node knows the packet as, or that its type is not taken from its writer
abbrev pub known : {I : Type 0} → Option I → Result I Refusal
known None = Err NotTaken
known (Some x) = Ok x

abbrev pub past_address : {I : Type 0} → Result (Unit {0}) Refusal → Option I → Result I Refusal
past_address (Err e) x = Err e
past_address (Ok _) x = known x

-- `takes` says what the node knows a packet as, and none for a type that it does not take from this writer
abbrev pub admission : {I : Type 0} → Address → (Message (List ℕ) → Option I) → Message (List ℕ) → Result I Refusal
admission a takes p = past_address (address_answer a p) (takes p)

-- `accepts` says what a packet of a writer that is let in makes of the node
abbrev pub accepted : {N I : Type 0} → (ℕ → I → Acceptance N) → N → ℕ → Result I Refusal → Acceptance N
accepted accepts n writer (Err e) = unchanged n
accepted accepts n writer (Ok x) = accepts writer x

-- a packet that is let in wants a reply buffer of 26 bytes, whether a reply comes or not
abbrev pub delivered_in : {N I : Type 0} → Address → (ℕ → I → Acceptance N) → ℕ → Result I Refusal → List ℕ → Result Delivered Refusal
delivered_in a accepts writer (Err e) out = Err e
delivered_in a accepts writer (Ok x) out =
    cond (nat_lt (length out) 26) (Err ShortOutput)
    (Ok (record { outcome = (accepts writer x).outcome; reply = reply_length a writer (accepts writer x).reply out }))

-- a node of the kind N, which knows packets as I
module _ {N I : Type 0} (a : Address) (takes : Message (List ℕ) → Option I) (accepts : ℕ → I → Acceptance N) where
  -- as read refuses, then by the address, then by type and writer, then by the room for a reply
  abbrev pub deliver_answer : Result (Message (List ℕ)) Refusal → List ℕ → Result Delivered Refusal
  deliver_answer (Err e) out = Err e
  deliver_answer (Ok p) out = delivered_in a accepts p.writer (admission a takes p) out

  abbrev pub delivered : N → Result (Message (List ℕ)) Refusal → Acceptance N
  delivered n (Err e) = unchanged n
  delivered n (Ok p) = accepted accepts n p.writer (admission a takes p)

  -- a refused deliver changes neither the node nor the buffer
  abbrev pub deliver_after : Bool → N → Result (Message (List ℕ)) Refusal → N
  deliver_after done n r = cond done (delivered n r).node n

  abbrev pub reply_in : N → Result (Message (List ℕ)) Refusal → List ℕ → List ℕ
  reply_in n (Err e) out = out
  reply_in n (Ok p) out = reply_buffer a p.writer (delivered n (Ok p)).reply out

  abbrev pub deliver_buffer : Bool → N → Result (Message (List ℕ)) Refusal → List ℕ → List ℕ
  deliver_buffer done n r out = cond done (reply_in n r out) out
