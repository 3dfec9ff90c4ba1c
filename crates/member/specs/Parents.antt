-- Which packets come from a parent. Assumes nothing.
use Rattle.std.specs.Prelude.{◌≡◌, ℕ, Bool, false, List, Some, None, Option, ◌==◌}
use Rattle.std.specs.declared.convert.Infallible.{Infallible}
use Rattle.wire.specs.declared.packet.Body.{Body}
use Rattle.wire.specs.declared.packet.Body.TheVariants as body
use Rattle.address.specs.declared.delivery.Accepted.{Accepted}
use Rattle.address.specs.Deliveries.{Acceptance}
use Rattle.member.specs.declared.member.Member.{Member}
use Rattle.member.specs.declared.types.FromParent.{FromParent}
use Rattle.member.specs.declared.types.FromParent.TheVariants.{JoinAck, JoinConfirm, Heartbeat, Eject, LeaveConfirm}
use Rattle.member.specs.declared.types.Heard.{Heard}
use Rattle.member.specs.declared.types.Response.{Response}
use Rattle.member.specs.declared.types.Upper.{Upper}
use Rattle.member.specs.declared.types.Upper.TheVariants.{Parent, Sender}

abbrev pub is_parent : Upper → ℕ → Bool
is_parent (Parent n) writer = n == writer
is_parent (Sender n) writer = false

-- by the type alone: types 5, 6, 8, 10 and 13
abbrev pub parent_packet : Body (List ℕ) → Option FromParent
parent_packet (body.Data n p) = None
parent_packet (body.Retransmission n p) = None
parent_packet (body.Hack h) = None
parent_packet (body.JoinStream t) = None
parent_packet (body.JoinAck t) = Some (JoinAck t)
parent_packet (body.JoinConfirm t start slot) = Some (JoinConfirm t start slot)
parent_packet (body.LeaveStream t) = None
parent_packet (body.Heartbeat clock) = Some (Heartbeat clock)
parent_packet (body.NullData n) = None
parent_packet (body.Eject t) = Some (Eject t)
parent_packet (body.Eos n) = None
parent_packet (body.HeartbeatResponse t clock) = None
parent_packet (body.LeaveConfirm t) = Some (LeaveConfirm t)

abbrev pub response_body : Response → Body Infallible
response_body r = body.HeartbeatResponse r.term r.clock

abbrev pub response_of : Option Response → Option (Body Infallible)
response_of None = None
response_of (Some r) = Some (response_body r)

-- a member's answer to its parent, as deliver tells it
pub record HeardAs (h : Heard) (a : Accepted) : Type 0 where
  pub outcome : a.outcome ≡ h.outcome
  pub reply : a.reply ≡ response_of h.response

-- what a packet of the parent makes of a member, as deliver tells it
abbrev pub heard_from_parent : {X : Type 0} → Member X × Heard → Acceptance (Member X)
heard_from_parent h = record { node = h.0; outcome = h.1.outcome; reply = response_of h.1.response }
