-- One row of a control node, and what each packet of its child makes of it. Assumes nothing.
use Rattle.std.specs.Prelude.{ℕ, ◌-◌, Bool, true, false, cond, ◌&&◌, replicate, Some, None, Option, ◌==◌, nat_le, nat_lt}
use Rattle.answer.specs.declared.Outcome.TheVariants.{Stale, Taken}
use Rattle.wire.specs.Flags.{held_by}
use Rattle.wire.specs.declared.packet.Hack.{Hack}
use Rattle.rows.specs.declared.row.Row.{Row}
use Rattle.rows.specs.declared.row.FromChild.{FromChild}
use Rattle.rows.specs.declared.row.FromChild.TheVariants.{JoinStream, LeaveStream, Hack as HackOf, HeartbeatResponse}
use Rattle.rows.specs.declared.row.Reply.{Reply}
use Rattle.rows.specs.declared.row.Reply.TheVariants.{JoinAck, JoinConfirm, Eject, LeaveConfirm}
use Rattle.rows.specs.declared.row.Decision.{Decision}
use Rattle.rows.specs.declared.row.Parent.{Parent}

-- the parts of a row under the names that the rules give them
abbrev pub term_of : Row → ℕ
term_of r = r.hack.term

abbrev pub low_of : Row → ℕ
low_of r = r.hack.lsn

abbrev pub high_of : Row → ℕ
high_of r = r.hack.hsn

-- whether the child is known to hold number n: below low, or up to high with its flag set
abbrev pub row_holds : Row → ℕ → Bool
row_holds r n = held_by r.hack n

-- a report of term t by which nothing from number `low` on is held
abbrev pub nothing_held : ℕ → ℕ → Hack
nothing_held t low = record { term = t; serial = 0; lsn = low; hsn = low - 1; flags = replicate 9 0 }

-- a child that never joined
abbrev pub new_row : ℕ → Row
new_row child = record { child = child; live = false; start = 1; heard = 0; hack = nothing_held 0 1 }

-- a row that counts no longer keeps all else
abbrev pub dead_row : Row → Row
dead_row r = record r { live = false }

-- a child that left at a term
abbrev pub left_row : ℕ → Row → Row
left_row t r = record r { live = false; hack = record r.hack { term = t } }

abbrev pub heard_row : ℕ → Row → Row
heard_row clock r = record r { heard = clock }

-- a child that joins at a term, from number `low` on: nothing is held yet
abbrev pub admitted_row : ℕ → ℕ → ℕ → Row → Row
admitted_row low t clock r = record { child = r.child; live = true; start = low; heard = clock; hack = nothing_held t low }

-- a report that is taken
abbrev pub told_row : Hack → ℕ → Row → Row
told_row h clock r = record r { heard = clock; hack = h }

-- silent for more than the limit; an earlier clock counts as no silence
abbrev pub ticked_row : ℕ → ℕ → Row → Row
ticked_row limit clock r = cond (nat_lt limit (clock - r.heard)) (dead_row r) r

-- the packet's term is the one at which the row is live
abbrev pub live_at : ℕ → Row → Bool
live_at t r = r.live && t == term_of r

abbrev pub stale : Row → Option Reply → Decision
stale r reply = record { row = r; outcome = Stale; reply = reply }

abbrev pub taken : Row → Option Reply → Decision
taken r reply = record { row = r; outcome = Taken; reply = reply }

-- what each packet of a child makes of its row
abbrev pub join_decision : Parent → ℕ → ℕ → Row → Decision
join_decision p clock t r =
    cond p.joined
    (cond (nat_lt (term_of r) t) (taken (admitted_row p.low t clock r) (Some (JoinConfirm p.low p.slot)))
    (cond (live_at t r) (taken (heard_row clock r) (Some (JoinConfirm r.start p.slot)))
    (stale r (Some Eject))))
    (stale r (Some JoinAck))

abbrev pub leave_decision : ℕ → Row → Decision
leave_decision t r = cond (nat_le (term_of r) t) (taken (left_row t r) (Some LeaveConfirm)) (stale r (Some LeaveConfirm))

abbrev pub report_decision : ℕ → Hack → Row → Decision
report_decision clock h r =
    cond (live_at h.term r)
    (cond (nat_lt r.hack.serial h.serial && nat_le (low_of r) h.lsn) (taken (told_row h clock r) None) (stale r None))
    (stale r (Some Eject))

abbrev pub response_decision : ℕ → ℕ → Row → Decision
response_decision clock t r = cond (live_at t r) (taken (heard_row clock r) None) (stale r (Some Eject))

abbrev pub decision : Parent → ℕ → FromChild → Row → Decision
decision p clock (JoinStream t) r = join_decision p clock t r
decision p clock (LeaveStream t) r = leave_decision t r
decision p clock (HackOf h) r = report_decision clock h r
decision p clock (HeartbeatResponse t) r = response_decision clock t r
