-- The joining rules over any kind of member, whose own part is seen as X. Assumes nothing.
use Rattle.std.specs.Prelude.{ℕ, ◌+◌, ◌-◌, Bool, true, false, cond, ◌&&◌, List, [], Some, None, Err, Option, Result, ◌==◌, nat_lt}
use Rattle.std.specs.declared.convert.Infallible.{Infallible}
use Rattle.answer.specs.declared.Outcome.TheVariants.{Stale, Taken}
use Rattle.answer.specs.declared.Refusal.{Refusal}
use Rattle.answer.specs.declared.Refusal.TheVariants.{WrongStanding, Exhausted, HasLiveRow, NoLiveRow}
use Rattle.wire.specs.Encoding.{encode}
use Rattle.wire.specs.declared.packet.Body.{Body}
use Rattle.wire.specs.declared.packet.Body.TheVariants.{Hack as HackOf, JoinStream, LeaveStream}
use Rattle.wire.specs.declared.packet.Message.{Message}
use Rattle.address.specs.Addresses.{packet_of, written}
use Rattle.member.specs.declared.member.Member.{Member}
use Rattle.member.specs.declared.types.FromParent.{FromParent}
use Rattle.member.specs.declared.types.FromParent.TheVariants.{JoinAck, JoinConfirm, Heartbeat, Eject, LeaveConfirm}
use Rattle.member.specs.declared.types.Heard.{Heard}
use Rattle.member.specs.declared.types.Identity.{Identity}
use Rattle.member.specs.declared.types.Standing.{Standing}
use Rattle.member.specs.declared.types.Standing.TheVariants.{Outside, Waiting, Joined}
use Rattle.member.specs.declared.types.Summary.{Summary}
use Rattle.member.specs.declared.types.Upper.{Upper}
use Rattle.member.specs.declared.types.Upper.TheVariants.{Parent, Sender}

-- a member with its own part seen as X
abbrev pub member_seen : {K X : Type 0} → (K → X) → Member K → Member X
member_seen seen m = record { identity = m.identity; standing = m.standing; term = m.term; start = m.start; slot = m.slot; serial = m.serial; heard = m.heard; kind = seen m.kind }

abbrev pub last : ℕ
last = 4294967295

abbrev pub upper_number : Upper → ℕ
upper_number (Parent n) = n
upper_number (Sender n) = n

-- the top has no parent
abbrev pub is_top : Upper → Bool
is_top (Parent n) = false
is_top (Sender n) = true

abbrev pub is_joined : Standing → Bool
is_joined Outside = false
is_joined Waiting = false
is_joined Joined = true

-- the term in a packet of the parent
abbrev pub parent_term : FromParent → Option ℕ
parent_term (JoinAck t) = Some t
parent_term (JoinConfirm t start slot) = Some t
parent_term (Heartbeat sent) = None
parent_term (Eject t) = Some t
parent_term (LeaveConfirm t) = Some t

-- what a node writes to its parent, and the top to the sender
abbrev pub up_packet : Identity → Body Infallible → Message (List ℕ)
up_packet i b = packet_of i.address (upper_number i.upper) b

module _ {X : Type 0} where
  -- changes of a member
  abbrev pub asking : ℕ → Member X → Member X
  asking t m = record { identity = m.identity; standing = Waiting; term = t; start = m.start; slot = m.slot; serial = m.serial; heard = m.heard; kind = m.kind }

  abbrev pub gone : (X → X) → Member X → Member X
  gone exited m = record { identity = m.identity; standing = Outside; term = m.term; start = m.start; slot = m.slot; serial = m.serial; heard = m.heard; kind = exited m.kind }

  abbrev pub admitted : (ℕ → X → X) → ℕ → ℕ → ℕ → Member X → Member X
  admitted entered start slot clock m = record { identity = m.identity; standing = Joined; term = m.term; start = start; slot = slot; serial = 0; heard = clock; kind = entered start m.kind }

  abbrev pub heard_at : ℕ → Member X → Member X
  heard_at clock m = record { identity = m.identity; standing = m.standing; term = m.term; start = m.start; slot = m.slot; serial = m.serial; heard = clock; kind = m.kind }

  abbrev pub counted : (X → X) → Member X → Member X
  counted settled m = record { identity = m.identity; standing = m.standing; term = m.term; start = m.start; slot = m.slot; serial = m.serial + 1; heard = m.heard; kind = settled m.kind }

  -- join: the term rises from outside, and is written again while waiting
  abbrev pub join_term : Standing → Member X → ℕ
  join_term Outside m = m.term + 1
  join_term Waiting m = m.term
  join_term Joined m = m.term

  abbrev pub join_packet : Member X → Message (List ℕ)
  join_packet m = up_packet m.identity (JoinStream (join_term m.standing m))

  abbrev pub join_answer : Standing → Member X → List ℕ → Result ℕ Refusal
  join_answer Outside m out = cond (m.term == last) (Err Exhausted) (written (join_packet m) out)
  join_answer Waiting m out = written (join_packet m) out
  join_answer Joined m out = Err WrongStanding

  abbrev pub join_after : Bool → Member X → Member X
  join_after done m = cond done (asking (join_term m.standing m) m) m

  -- leave
  abbrev pub leave_packet : Member X → Message (List ℕ)
  leave_packet m = up_packet m.identity (LeaveStream m.term)

  abbrev pub leave_answer : (X → Bool) → Member X → List ℕ → Result ℕ Refusal
  leave_answer busy m out =
      cond (is_top m.identity.upper) (Err WrongStanding)
      (cond (m.term == 0) (Err WrongStanding)
      (cond (busy m.kind) (Err HasLiveRow) (written (leave_packet m) out)))

  abbrev pub leave_after : (X → X) → Bool → Member X → Member X
  leave_after exited done m = cond done (gone exited m) m

  -- tick: whether a joined member has not heard its parent for too long
  abbrev pub goes_silent : ℕ → Member X → Bool
  goes_silent clock m = is_joined m.standing && (cond (is_top m.identity.upper) false (nat_lt m.identity.limit (clock - m.heard)))

  abbrev pub tick_after : (X → X) → ℕ → Member X → Member X
  tick_after exited clock m = cond (goes_silent clock m) (gone exited m) m

  -- report
  abbrev pub report_packet : Member X → Summary → Message (List ℕ)
  report_packet m s = up_packet m.identity (HackOf (record { term = m.term; serial = m.serial + 1; lsn = s.lsn; hsn = s.hsn; flags = s.flags }))

  abbrev pub report_of : Option Summary → Member X → List ℕ → Result ℕ Refusal
  report_of None m out = Err NoLiveRow
  report_of (Some s) m out = cond (m.serial == last) (Err Exhausted) (written (report_packet m s) out)

  abbrev pub report_answer : (X → Option Summary) → Member X → List ℕ → Result ℕ Refusal
  report_answer summary m out = cond (is_joined m.standing) (report_of (summary m.kind) m out) (Err WrongStanding)

  abbrev pub report_after : (X → X) → Bool → Member X → Member X
  report_after settled done m = cond done (counted settled m) m

  -- what stands in the buffer after a report
  abbrev pub report_bytes : Option Summary → Member X → List ℕ
  report_bytes None m = []
  report_bytes (Some s) m = encode (report_packet m s)

  -- what a packet of the parent makes of a member: its standing, the packet and whether the term is its own decide
  abbrev pub stale : Member X → Member X × Heard
  stale m = (m, record { outcome = Stale; response = None })

  abbrev pub taken : Member X → Member X × Heard
  taken m = (m, record { outcome = Taken; response = None })

  abbrev pub heard : (ℕ → X → X) → (X → X) → ℕ → Standing → FromParent → Member X → Member X × Heard
  heard entered exited clock Outside (JoinAck t) m = stale m
  heard entered exited clock Outside (JoinConfirm t start slot) m = stale m
  heard entered exited clock Outside (Heartbeat sent) m = stale m
  heard entered exited clock Outside (Eject t) m = stale m
  heard entered exited clock Outside (LeaveConfirm t) m = cond (t == m.term) (taken m) (stale m)
  heard entered exited clock Waiting (JoinAck t) m = cond (t == m.term) (taken m) (stale m)
  heard entered exited clock Waiting (JoinConfirm t start slot) m = cond (t == m.term) (taken (admitted entered start slot clock m)) (stale m)
  heard entered exited clock Waiting (Heartbeat sent) m = stale m
  heard entered exited clock Waiting (Eject t) m = cond (t == m.term) (taken (gone exited m)) (stale m)
  heard entered exited clock Waiting (LeaveConfirm t) m = stale m
  heard entered exited clock Joined (JoinAck t) m = stale m
  heard entered exited clock Joined (JoinConfirm t start slot) m = stale m
  heard entered exited clock Joined (Heartbeat sent) m = (heard_at clock m, record { outcome = Taken; response = Some (record { term = m.term; clock = sent }) })
  heard entered exited clock Joined (Eject t) m = cond (t == m.term) (taken (gone exited m)) (stale m)
  heard entered exited clock Joined (LeaveConfirm t) m = stale m
