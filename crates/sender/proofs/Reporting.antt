-- What becomes of a HACK of the top that is let in. Assumes nothing.
use Rattle.std.proofs.Common.{◌≡◌, ℕ, ◌+◌, ◌-◌, ◌≤◌, Bool, true, false, cond, eqb, List, Some, None, is_ok, Ok, Err, Option, Result, sym, refl, ap, ◌∙◌, subst, arith, rules}
use Rattle.std.proofs.lemmas.Bool.{and_parts}
use Rattle.std.proofs.lemmas.Bool.Decides.{nat_tests}
use Rattle.answer.specs.declared.Refusal.{Refusal}
use Rattle.answer.specs.declared.Outcome.{Outcome}
use Rattle.answer.specs.declared.Outcome.TheVariants.{Taken, Stale}
use Rattle.answer.specs.declared.Delivered.{Delivered}
use Rattle.store.specs.Pairs.{Meaning}
use Rattle.wire.specs.Decoding.{decode, packet_at, counts_agree}
use Rattle.wire.specs.Flags.{is_missing}
use Rattle.wire.specs.Ranges.{packet_in_range, header_in_range, body_in_range, hack_fields_in_range, hack_in_range}
use Rattle.wire.specs.declared.packet.Body.{Body}
use Rattle.wire.specs.declared.packet.Body.TheVariants as body
use Rattle.wire.specs.declared.packet.Hack.{Hack}
use Rattle.wire.specs.declared.packet.Message.{Message}
use Rattle.wire.proofs.Forth.{taken}
use Rattle.address.specs.Deliveries.{Acceptance, unchanged, known, past_address, accepted, delivered}
use Rattle.address.proofs.LetIn.{LetIn, was_let_in}
use Rattle.sender.specs.declared.sender.Sender.{Sender}
use Rattle.sender.specs.WantedNumbers.{wants}
use Rattle.sender.specs.Senders.{hack_in, report_from, is_fresh, reported, accepts_report, sender_answer, sender_after, WantsTheMissing, SenderSound}
use Rattle.sender.proofs.Wants.{missing_wants, missing_from, missing_through}

outcome_in : Result Delivered Refusal → Outcome
outcome_in (Ok d) = d.outcome
outcome_in (Err e) = Stale

-- a packet that was read, with the HACK that the sender takes it for
pub record Came (s : Sender Meaning Bool) (bytes : List ℕ) (p : Message (List ℕ)) (h : Hack) : Type 0 where
  pub read : decode bytes ≡ Ok p
  pub report : report_from s.top p ≡ Some h

module _ (s : Sender Meaning Bool) (bytes : List ℕ) (p : Message (List ℕ)) (h : Hack) (came : Came s bytes p h) where
  -- what comes of it, by whether it is fresh
  abbrev either : Bool → Acceptance (Sender Meaning Bool)
  either b = cond b (record { node = reported s h; outcome = Taken; reply = None }) (unchanged s)

  -- the HACK is the packet's body
  of_body : (b : Body (List ℕ)) → Some h ≡ hack_in b → b ≡ body.Hack h
  of_body (body.Data n x) e = grind arith
  of_body (body.Retransmission n x) e = grind arith
  of_body (body.Hack x) e = cc
  of_body (body.JoinStream t) e = grind arith
  of_body (body.JoinAck t) e = grind arith
  of_body (body.JoinConfirm t x l) e = grind arith
  of_body (body.LeaveStream t) e = grind arith
  of_body (body.Heartbeat k) e = grind arith
  of_body (body.NullData n) e = grind arith
  of_body (body.Eject t) e = grind arith
  of_body (body.Eos n) e = grind arith
  of_body (body.HeartbeatResponse t k) e = grind arith
  of_body (body.LeaveConfirm t) e = grind arith

  from_top : (b : Bool) (x : Option Hack) → Some h ≡ cond b x None → Some h ≡ x
  from_top true x e = e
  from_top false x e = grind arith

  hack_body : p.body ≡ body.Hack h
  hack_body = of_body p.body (from_top (eqb p.writer s.top) (hack_in p.body) (sym came.report))

  pub in_range : hack_in_range h ≡ true
  in_range =
      let t = taken bytes p came.read in
      let all = (and_parts (counts_agree bytes) (packet_in_range (packet_at bytes)) t.good).1 in
      let good : packet_in_range p ≡ true = ap packet_in_range (sym t.same) ∙ all in
      ap body_in_range (sym hack_body) ∙ (and_parts (header_in_range p.stream p.writer) (body_in_range p.body) good).1

  fields : hack_fields_in_range h.term h.serial h.lsn h.hsn ≡ true
  fields = (and_parts (hack_fields_in_range h.term h.serial h.lsn h.hsn) _ in_range).0

  some : 1 ≤ h.lsn
  some = let f = fields in grind (arith, nat_tests)

  order : h.lsn ≤ h.hsn + 1
  order = let f = fields in grind (arith, nat_tests)

  bound : h.hsn ≤ h.lsn + 255
  bound = let f = fields in grind (arith, nat_tests)

  -- what is wanted once it was taken
  fresh_if : (b : Bool) → (either b).outcome ≡ Taken → b ≡ true
  fresh_if true e = refl
  fresh_if false e = grind arith

  pub wants_missing : (after : Sender Meaning Bool) (o : Outcome) → o ≡ (accepts_report s 0 h).outcome → after ≡ (accepts_report s 0 h).node → WantsTheMissing bytes (Ok (record { outcome = o; reply = 0 })) after.wanted
  unfolding outcome_in
  wants_missing after o told is q x reads carries done n =
      let same : q ≡ p = let e = sym reads ∙ came.read in cc in
      let hack : x ≡ h = let e = sym carries ∙ ap (λ m. m.body) same ∙ hack_body in cc in
      let took : o ≡ Taken = ap outcome_in done in
      let fresh = fresh_if (is_fresh s h) (sym told ∙ took) in
      let gone : after ≡ reported s h = is ∙ ap (λ b. (either b).node) fresh in
      ap (λ m. wants m.wanted n) gone ∙ missing_wants h n bound ∙ ap (λ m. is_missing m n) (sym hack)

  -- a sound sender stays so
  reported_sound : is_fresh s h ≡ true → SenderSound s → SenderSound (reported s h)
  reported_sound fresh sound =
      let l = some in
      let o = order in
      let not_back : s.released ≤ h.lsn - 1 = grind (arith, nat_tests) in
      let not-ahead : h.hsn ≤ s.highest = grind (arith, nat_tests) in
      record {
        stream = sound.stream;
        number = sound.number;
        last = sound.last;
        order = omega arith;
        window = omega (arith, sound.window);
        wanted = λ n w.
            let m : is_missing h n ≡ true = sym (missing_wants h n bound) ∙ w in
            (omega (arith, missing_from h n m), omega (arith, missing_through h n m));
      }

  pub report_keeps : (after : Sender Meaning Bool) → after ≡ (accepts_report s 0 h).node → SenderSound s → SenderSound after
  report_keeps after is sound = subst SenderSound (sym is) (go (is_fresh s h) (λ f. reported_sound f sound))
    where
      go : (b : Bool) → (b ≡ true → SenderSound (reported s h)) → SenderSound ((either b).node)
      go true f = f refl
      go false f = sound

-- a deliver that is not refused took a HACK of the top
module _ (s : Sender Meaning Bool) (bytes out : List ℕ) (d : Delivered) (ok : sender_answer s bytes out ≡ Ok d) where
  let_in : LetIn s.address (report_from s.top) (accepts_report s) (decode bytes) d
  let_in = was_let_in s.address (report_from s.top) (accepts_report s) (decode bytes) out d ok

  came_in : Came s bytes let_in.packet let_in.incoming
  came_in = record { read = let_in.read; report = let_in.known }

  came_to : sender_after true s bytes ≡ (accepts_report s 0 let_in.incoming).node
  came_to =
      ap (λ r. (delivered s.address (report_from s.top) (accepts_report s) s r).node) let_in.read
      ∙ ap (λ r. (accepted (accepts_report s) s let_in.packet.writer (past_address r (report_from s.top let_in.packet))).node) let_in.address
      ∙ ap (λ o. (accepted (accepts_report s) s let_in.packet.writer (known o)).node) let_in.known

  after_sound : SenderSound s → SenderSound (sender_after true s bytes)
  after_sound = report_keeps s bytes let_in.packet let_in.incoming came_in (sender_after true s bytes) came_to

pub delivered_keeps : (s : Sender Meaning Bool) (bytes out : List ℕ) (r : Result Delivered Refusal) → r ≡ sender_answer s bytes out → SenderSound s → SenderSound (sender_after (is_ok r) s bytes)
delivered_keeps s bytes out (Ok d) is sound = after_sound s bytes out d (sym is) sound
delivered_keeps s bytes out (Err e) is sound = sound

pub delivered_wants : (s : Sender Meaning Bool) (bytes out : List ℕ) (r : Result Delivered Refusal) → r ≡ sender_answer s bytes out → WantsTheMissing bytes r (sender_after (is_ok r) s bytes).wanted
delivered_wants s bytes out (Err e) is q x reads carries done n = absurd (search rules)
delivered_wants s bytes out (Ok d) is q x reads carries done n =
    let ok = sym is ∙ done in
    let i = let_in s bytes out _ ok in
    wants_missing s bytes i.packet i.incoming (came_in s bytes out _ ok) (sender_after true s bytes) Taken i.outcome (came_to s bytes out _ ok) q x reads carries refl n
