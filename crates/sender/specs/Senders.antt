-- What each call of a sender answers, and what the sender and the buffer then hold. Assumes nothing.
use Rattle.std.specs.Prelude.{◌≡◌, ℕ, ◌+◌, ◌-◌, ◌<◌, ◌≤◌, Bool, true, false, cond, ◌&&◌, List, Some, None, Ok, Err, Option, Result, ◌==◌, nat_le, nat_lt}
use Rattle.std.specs.declared.convert.Infallible.{Infallible}
use Rattle.answer.specs.declared.Refusal.{Refusal}
use Rattle.answer.specs.declared.Refusal.TheVariants.{OutOfRange, BadPayload, WindowFull, Exhausted, Full}
use Rattle.answer.specs.declared.Outcome.TheVariants.{Taken}
use Rattle.answer.specs.declared.Delivered.{Delivered}
use Rattle.store.specs.Pairs.{Meaning, good_length}
use Rattle.store.specs.Operations.{put_answer, put_after, forget_after}
use Rattle.wire.specs.Decoding.{decode}
use Rattle.wire.specs.Flags.{is_missing}
use Rattle.wire.specs.declared.packet.Body.{Body}
use Rattle.wire.specs.declared.packet.Body.TheVariants as body
use Rattle.wire.specs.declared.packet.Hack.{Hack}
use Rattle.wire.specs.declared.packet.Message.{Message}
use Rattle.address.specs.declared.Address.{Address}
use Rattle.address.specs.Addresses.{good_beside, packet_of, written}
use Rattle.address.specs.Deliveries.{Acceptance, unchanged, deliver_answer, deliver_after, deliver_buffer}
use Rattle.sender.specs.declared.sender.Sender.{Sender}
use Rattle.sender.specs.declared.wanted.Wanted.{Wanted}
use Rattle.sender.specs.WantedNumbers.{wants, none_wanted, missing_of}

-- a sender by the meaning of its queue, and by whether its stream has ended
abbrev pub sender_seen : {Q P : Type 0} → (Q → Meaning) → (P → Bool) → Sender Q P → Sender Meaning Bool
sender_seen meaning ended s = record { address = s.address; top = s.top; highest = s.highest; released = s.released; serial = s.serial; wanted = s.wanted; queue = meaning s.queue; phase = ended s.phase }

-- a sender whose stream is open, and one whose stream has ended
abbrev pub open_seen : {Q P : Type 0} → (Q → Meaning) → Sender Q P → Sender Meaning Bool
open_seen meaning s = sender_seen meaning (λ _. false) s

abbrev pub ended_seen : {Q P : Type 0} → (Q → Meaning) → Sender Q P → Sender Meaning Bool
ended_seen meaning s = sender_seen meaning (λ _. true) s

-- a sender can be made if its own number and the top's are good beside each other
abbrev pub check_answer : Address → ℕ → Result (Unit {0}) Refusal
check_answer a top = cond (good_beside a top) (Ok tt) (Err OutOfRange)

-- a sender just made
abbrev pub new_sender : Address → ℕ → Meaning → Sender Meaning Bool
new_sender a top queue = record { address = a; top = top; highest = 0; released = 0; serial = 0; wanted = none_wanted; queue = queue; phase = false }

-- what holds of a sender from its making on
pub record SenderSound (s : Sender Meaning Bool) : Type 0 where
  pub stream : 32768 ≤ s.address.stream
  pub number : 1 ≤ s.address.number
  pub last : s.highest ≤ 4294967294
  pub order : s.released ≤ s.highest
  pub window : s.highest ≤ s.released + 256
  pub wanted : (n : ℕ) → wants s.wanted n ≡ true → (s.released < n) × (n ≤ s.highest)

-- offer: the payload goes to all under the next number
abbrev pub offer_packet : Sender Meaning Bool → List ℕ → Message (List ℕ)
offer_packet s xs = record { tree = s.address.tree; stream = s.address.stream; writer = s.address.number; addressee = 0; body = body.Data (s.highest + 1) xs }

-- what can be written is refused if the queue refuses it, for any reason
abbrev pub if_queued : Result (Unit {0}) Refusal → Result ℕ Refusal → Result ℕ Refusal
if_queued put (Err e) = Err e
if_queued (Ok _) (Ok n) = Ok n
if_queued (Err e) (Ok n) = Err Full

-- the length first, then the window, then the last number, then the room, then the queue
abbrev pub offer_answer : Sender Meaning Bool → List ℕ → List ℕ → Result ℕ Refusal
offer_answer s xs out =
    cond (good_length xs)
    (cond (nat_le 256 (s.highest - s.released)) (Err WindowFull)
    (cond (nat_le 4294967294 s.highest) (Err Exhausted)
    (if_queued (put_answer s.queue (s.highest + 1) xs) (written (offer_packet s xs) out))))
    (Err BadPayload)

abbrev pub offered : Sender Meaning Bool → List ℕ → Sender Meaning Bool
offered s xs = record s { highest = s.highest + 1; queue = put_after true s.queue (s.highest + 1) xs }

abbrev pub offer_after : Bool → Sender Meaning Bool → List ℕ → Sender Meaning Bool
offer_after done s xs = cond done (offered s xs) s

-- end: all stays, and the stream has ended
abbrev pub ended_after : Sender Meaning Bool → Sender Meaning Bool
ended_after s = record s { phase = true }

-- announce: NullData, or EOS once the stream has ended, with the highest number, to all
abbrev pub announcement : Bool → ℕ → Body Infallible
announcement ended highest = cond ended (body.Eos highest) (body.NullData highest)

abbrev pub announce_packet : Sender Meaning Bool → Message (List ℕ)
announce_packet s = packet_of s.address 0 (announcement s.phase s.highest)

-- deliver: a HACK of the top is all that a sender takes
abbrev pub hack_in : Body (List ℕ) → Option Hack
hack_in (body.Data n p) = None
hack_in (body.Retransmission n p) = None
hack_in (body.Hack h) = Some h
hack_in (body.JoinStream t) = None
hack_in (body.JoinAck t) = None
hack_in (body.JoinConfirm t start slot) = None
hack_in (body.LeaveStream t) = None
hack_in (body.Heartbeat clock) = None
hack_in (body.NullData n) = None
hack_in (body.Eject t) = None
hack_in (body.Eos n) = None
hack_in (body.HeartbeatResponse t clock) = None
hack_in (body.LeaveConfirm t) = None

abbrev pub report_from : ℕ → Message (List ℕ) → Option Hack
report_from top p = cond (p.writer == top) (hack_in p.body) None

-- a HACK is fresh if its term is 1, its serial above the last one, its stable at least released and its HSN at most highest
abbrev pub is_fresh : Sender Meaning Bool → Hack → Bool
is_fresh s h = h.term == 1 && (nat_lt s.serial h.serial && (nat_le s.released (h.lsn - 1) && nat_le h.hsn s.highest))

-- a fresh one releases through its stable, and its missing numbers are wanted, and no others
abbrev pub reported : Sender Meaning Bool → Hack → Sender Meaning Bool
reported s h = record s { released = h.lsn - 1; serial = h.serial; wanted = missing_of h; queue = forget_after s.queue (h.lsn - 1) }

abbrev pub accepts_report : Sender Meaning Bool → ℕ → Hack → Acceptance (Sender Meaning Bool)
accepts_report s writer h = cond (is_fresh s h) (record { node = reported s h; outcome = Taken; reply = None }) (unchanged s)

abbrev pub sender_answer : Sender Meaning Bool → List ℕ → List ℕ → Result Delivered Refusal
sender_answer s bytes out = deliver_answer s.address (report_from s.top) (accepts_report s) (decode bytes) out

abbrev pub sender_after : Bool → Sender Meaning Bool → List ℕ → Sender Meaning Bool
sender_after done s bytes = deliver_after s.address (report_from s.top) (accepts_report s) done s (decode bytes)

abbrev pub sender_buffer : Bool → Sender Meaning Bool → List ℕ → List ℕ → List ℕ
sender_buffer done s bytes out = deliver_buffer s.address (report_from s.top) (accepts_report s) done s (decode bytes) out

-- once a HACK was taken, exactly its missing numbers are wanted
abbrev pub WantsTheMissing : List ℕ → Result Delivered Refusal → Wanted → Type 0
WantsTheMissing bytes r w =
    (p : Message (List ℕ)) (h : Hack) → decode bytes ≡ Ok p → p.body ≡ body.Hack h → r ≡ Ok (record { outcome = Taken; reply = 0 }) → (n : ℕ) → wants w n ≡ is_missing h n
