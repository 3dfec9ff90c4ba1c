-- A packet told by what its payload holds, and not by where it lies. Assumes nothing.
use Rattle.std.specs.Prelude.{ℕ, List, Ok, Err, Result}
use Rattle.std.specs.Borrow.{Bor}
use Rattle.std.specs.declared.convert.Infallible.{Infallible}
use Rattle.answer.specs.declared.Refusal.{Refusal}
use Rattle.wire.specs.declared.packet.Body.{Body}
use Rattle.wire.specs.declared.packet.Body.TheVariants.{Data, Retransmission, Hack as HackOf, JoinStream, JoinAck, JoinConfirm, LeaveStream, Heartbeat, NullData, Eject, Eos, HeartbeatResponse, LeaveConfirm}
use Rattle.wire.specs.declared.packet.Hack.{Hack}
use Rattle.wire.specs.declared.packet.Message.{Message}
use Rattle.wire.specs.declared.packet.TreeId.{TreeId}

abbrev pub no_payload : Infallible → List ℕ
no_payload x = elim x [ ]

-- a body with its payload and its report changed
abbrev pub map_body : {A B : Type 0} → (A → B) → (Hack → Hack) → Body A → Body B
map_body f g (Data n p) = Data n (f p)
map_body f g (Retransmission n p) = Retransmission n (f p)
map_body f g (HackOf h) = HackOf (g h)
map_body f g (JoinStream t) = JoinStream t
map_body f g (JoinAck t) = JoinAck t
map_body f g (JoinConfirm t s l) = JoinConfirm t s l
map_body f g (LeaveStream t) = LeaveStream t
map_body f g (Heartbeat k) = Heartbeat k
map_body f g (NullData n) = NullData n
map_body f g (Eject t) = Eject t
map_body f g (Eos n) = Eos n
map_body f g (HeartbeatResponse t k) = HeartbeatResponse t k
map_body f g (LeaveConfirm t) = LeaveConfirm t

-- a packet whose payload is told by what it holds, and not by where it lies
abbrev pub plain_body : Body (Bor (List ℕ)) → Body (List ℕ)
plain_body x = map_body (λ p. p.now) (λ h. h) x

abbrev pub plain_packet : Message (Bor (List ℕ)) → Message (List ℕ)
plain_packet p = record { tree = p.tree; stream = p.stream; writer = p.writer; addressee = p.addressee; body = plain_body p.body }

-- a packet with no payload
abbrev pub bare_packet : TreeId → ℕ → ℕ → ℕ → Body Infallible → Message (List ℕ)
bare_packet tree stream writer addressee x = record { tree = tree; stream = stream; writer = writer; addressee = addressee; body = map_body no_payload (λ h. h) x }

abbrev pub plain_answer : Result (Message (Bor (List ℕ))) Refusal → Result (Message (List ℕ)) Refusal
plain_answer (Ok p) = Ok (plain_packet p)
plain_answer (Err e) = Err e

abbrev pub plain_body_answer : Result (Body (Bor (List ℕ))) Refusal → Result (Body (List ℕ)) Refusal
plain_body_answer (Ok b) = Ok (plain_body b)
plain_body_answer (Err e) = Err e
