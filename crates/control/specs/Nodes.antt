-- A control node, or the top, by its rules over bytes. Assumes nothing.
use Rattle.std.specs.Prelude.{ℕ, min, Bool, cond, List, map, Some, None, Err, Option, Result}
use Rattle.std.specs.declared.convert.Infallible.{Infallible}
use Rattle.answer.specs.declared.Delivered.{Delivered}
use Rattle.answer.specs.declared.Refusal.{Refusal}
use Rattle.answer.specs.declared.Refusal.TheVariants.{WrongStanding}
use Rattle.wire.specs.declared.packet.Body.{Body}
use Rattle.wire.specs.declared.packet.Body.TheVariants as body
use Rattle.wire.specs.declared.packet.Message.{Message}
use Rattle.address.specs.Addresses.{packet_of, written}
use Rattle.address.specs.Deliveries.{Acceptance, unchanged}
use Rattle.address.specs.Deliveries as any
use Rattle.rows.specs.declared.row.Row.{Row}
use Rattle.rows.specs.Rows.{ticked_row}
use Rattle.rows.specs.declared.row.FromChild.{FromChild}
use Rattle.rows.specs.declared.row.FromChild.TheVariants as child
use Rattle.rows.specs.declared.row.Reply.{Reply}
use Rattle.rows.specs.declared.row.Reply.TheVariants as reply
use Rattle.rows.specs.declared.row.Decision.{Decision}
use Rattle.rows.specs.Tables.{any_live, slot_of, decided, rows_after}
use Rattle.member.specs.declared.member.Member.{Member}
use Rattle.member.specs.declared.types.Identity.{Identity}
use Rattle.member.specs.declared.types.Standing.TheVariants.{Outside, Joined}
use Rattle.member.specs.Members.{is_top, is_joined, gone, goes_silent, heard}
use Rattle.member.specs.Parents.{heard_from_parent}
use Rattle.control.specs.declared.taking.Incoming.{Incoming}
use Rattle.control.specs.declared.taking.Incoming.TheVariants as from
use Rattle.control.specs.Controls.{SeenRows, rows_entered, rows_exited}
use Rattle.control.specs.Incomings.{takes}

-- a node just made: the top is joined at term 1, any other is outside at term 0
abbrev pub new_control : Identity → List Row → Member SeenRows
new_control i rows = record {
  identity = i;
  standing = cond (is_top i.upper) Joined Outside;
  term = cond (is_top i.upper) 1 0;
  start = 1;
  slot = 0;
  serial = 0;
  heard = 0;
  kind = record { low = 1; table = rows };
}

abbrev pub control_busy : SeenRows → Bool
control_busy x = any_live x.table

-- the silence of the parent comes first, then that of each child
abbrev pub rows_ticked : ℕ → Member SeenRows → Member SeenRows
rows_ticked clock m = record { identity = m.identity; standing = m.standing; term = m.term; start = m.start; slot = m.slot; serial = m.serial; heard = m.heard; kind = record { low = m.kind.low; table = map (ticked_row m.identity.limit clock) m.kind.table } }

abbrev pub ticked : ℕ → Member SeenRows → Member SeenRows
ticked clock m = cond (goes_silent clock m) (gone rows_exited m) (rows_ticked clock m)

abbrev pub beat_packet : ℕ → Member SeenRows → Message (List ℕ)
beat_packet clock m = packet_of m.identity.address 0 (body.Heartbeat clock)

abbrev pub beat_answer : ℕ → Member SeenRows → List ℕ → Result ℕ Refusal
beat_answer clock m out = cond (is_joined m.standing) (written (beat_packet clock m) out) (Err WrongStanding)

abbrev pub with_rows : Member SeenRows → List Row → Member SeenRows
with_rows m rows = record { identity = m.identity; standing = m.standing; term = m.term; start = m.start; slot = m.slot; serial = m.serial; heard = m.heard; kind = record { low = m.kind.low; table = rows } }

-- a reply to a child carries the term of its packet
abbrev pub term_from : FromChild → ℕ
term_from (child.JoinStream t) = t
term_from (child.LeaveStream t) = t
term_from (child.Hack h) = h.term
term_from (child.HeartbeatResponse t) = t

abbrev pub reply_body : ℕ → Reply → Body Infallible
reply_body t reply.JoinAck = body.JoinAck t
reply_body t (reply.JoinConfirm start slot) = body.JoinConfirm t start (min slot 65535)
reply_body t reply.Eject = body.Eject t
reply_body t reply.LeaveConfirm = body.LeaveConfirm t

abbrev pub reply_of : ℕ → Option Reply → Option (Body Infallible)
reply_of t None = None
reply_of t (Some r) = Some (reply_body t r)

abbrev pub heard_from_child : Member SeenRows → ℕ → FromChild → Option Decision → Acceptance (Member SeenRows)
heard_from_child m writer x None = unchanged m
heard_from_child m writer x (Some d) = record { node = with_rows m (rows_after (Some d) m.kind.table (slot_of writer m.kind.table)); outcome = d.outcome; reply = reply_of (term_from x) d.reply }

abbrev pub child_accepted : ℕ → Member SeenRows → ℕ → FromChild → Acceptance (Member SeenRows)
child_accepted clock m writer x = heard_from_child m writer x (decided (is_joined m.standing) m.kind.low clock x m.kind.table (slot_of writer m.kind.table))

-- what a packet that is let in makes of the node, the answer, and the reply to its writer
abbrev pub accepts : ℕ → Member SeenRows → ℕ → Incoming → Acceptance (Member SeenRows)
accepts clock m writer (from.Parent x) = heard_from_parent (heard rows_entered rows_exited clock m.standing x m)
accepts clock m writer (from.Child x) = child_accepted clock m writer x

-- deliver: the answer, the node and the reply buffer afterwards
abbrev pub deliver_answer : ℕ → Member SeenRows → Result (Message (List ℕ)) Refusal → List ℕ → Result Delivered Refusal
deliver_answer clock m r out = any.deliver_answer m.identity.address (takes m) (accepts clock m) r out

abbrev pub deliver_after : ℕ → Bool → Member SeenRows → Result (Message (List ℕ)) Refusal → Member SeenRows
deliver_after clock done m r = any.deliver_after m.identity.address (takes m) (accepts clock m) done m r

abbrev pub deliver_buffer : ℕ → Bool → Member SeenRows → Result (Message (List ℕ)) Refusal → List ℕ → List ℕ
deliver_buffer clock done m r out = any.deliver_buffer m.identity.address (takes m) (accepts clock m) done m r out
