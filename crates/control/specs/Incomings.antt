-- Which packets a control node takes, and from whom. Assumes nothing.
use Rattle.std.specs.Prelude.{ℕ, Bool, cond, List, is_some, Some, None, Option}
use Rattle.wire.specs.declared.packet.Body.{Body}
use Rattle.wire.specs.declared.packet.Body.TheVariants as body
use Rattle.wire.specs.declared.packet.Message.{Message}
use Rattle.rows.specs.declared.row.FromChild.{FromChild}
use Rattle.rows.specs.declared.row.FromChild.TheVariants.{JoinStream, LeaveStream, Hack, HeartbeatResponse}
use Rattle.rows.specs.Tables.{slot_of}
use Rattle.member.specs.declared.member.Member.{Member}
use Rattle.member.specs.declared.types.FromParent.{FromParent}
use Rattle.member.specs.Parents.{is_parent, parent_packet}
use Rattle.control.specs.declared.taking.Incoming.{Incoming}
use Rattle.control.specs.declared.taking.Incoming.TheVariants.{Parent, Child}
use Rattle.control.specs.Controls.{SeenRows}

-- a child's packet, by its type alone: types 3, 4, 7 and 12
abbrev pub child_packet : Body (List ℕ) → Option FromChild
child_packet (body.Data n p) = None
child_packet (body.Retransmission n p) = None
child_packet (body.Hack h) = Some (Hack h)
child_packet (body.JoinStream t) = Some (JoinStream t)
child_packet (body.JoinAck t) = None
child_packet (body.JoinConfirm t start slot) = None
child_packet (body.LeaveStream t) = Some (LeaveStream t)
child_packet (body.Heartbeat clock) = None
child_packet (body.NullData n) = None
child_packet (body.Eject t) = None
child_packet (body.Eos n) = None
child_packet (body.HeartbeatResponse t clock) = Some (HeartbeatResponse t)
child_packet (body.LeaveConfirm t) = None

-- a packet by its type alone: one of the parent's, one of a child's, or none that a control node takes
abbrev pub known_as : Option FromParent → Option FromChild → Option Incoming
known_as (Some x) child = Some (Parent x)
known_as None (Some x) = Some (Child x)
known_as None None = None

abbrev pub incoming_of : Body (List ℕ) → Option Incoming
incoming_of b = known_as (parent_packet b) (child_packet b)

-- the parent's types come from the parent, and the children's from a child
abbrev pub taken_from : Member SeenRows → ℕ → Incoming → Bool
taken_from m writer (Parent x) = is_parent m.identity.upper writer
taken_from m writer (Child x) = is_some (slot_of writer m.kind.table)

abbrev pub if_taken : Member SeenRows → ℕ → Option Incoming → Option Incoming
if_taken m writer None = None
if_taken m writer (Some x) = cond (taken_from m writer x) (Some x) None

abbrev pub takes : Member SeenRows → Message (List ℕ) → Option Incoming
takes m p = if_taken m p.writer (incoming_of p.body)
