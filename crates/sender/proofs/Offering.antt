-- What becomes of a payload that passed every test of an offer. Assumes nothing.
use Rattle.std.proofs.Common.{◌≡◌, ℕ, ◌+◌, ◌-◌, ◌<◌, ◌≤◌, Bool, true, false, eqb, leb, ◌≢◌, List, length, is_ok, Ok, Err, Result, sym, refl, ap, ◌∙◌, subst, arith}
use Rattle.std.proofs.lemmas.Bool.{cond-true, cond-false, and_from, eqb-false, lt-ltb, lt-leb}
use Rattle.answer.specs.declared.Refusal.{Refusal}
use Rattle.store.specs.Pairs.{Meaning, good_length}
use Rattle.store.specs.Operations.{put_answer, put_after}
use Rattle.address.specs.Addresses.{written}
use Rattle.sender.specs.declared.sender.Sender.{Sender}
use Rattle.sender.specs.Senders.{offer_packet, if_queued, offer_answer, offered, SenderSound}

-- an offer of xs that has passed every test: `put` is what the queue answered, `size` the length of the packet
pub record Passed (s : Sender Meaning Bool) (xs out : List ℕ) (put : Result (Unit {0}) Refusal) (size : ℕ) : Type 0 where
  pub long : good_length xs ≡ true
  pub window : s.highest - s.released < 256
  pub last : s.highest < 4294967294
  pub room : Ok size ≡ written (offer_packet s xs) out
  pub queue : put ≡ put_answer s.queue (s.highest + 1) xs
  pub done : is_ok put ≡ true

-- the sender with the next number, and its queue as it then is
abbrev pub with_next : Sender Meaning Bool → Meaning → Sender Meaning Bool
with_next s queue = record s { highest = s.highest + 1; queue = queue }

pub good_size : (xs : List ℕ) → false ≡ eqb (length xs) 0 → length xs ≤ 512 → good_length xs ≡ true
good_size xs some most = let one : length xs ≢ 0 = eqb-false (length xs) 0 (sym some) in and_from _ _ (lt-ltb 0 (length xs) (omega arith)) (lt-ltb (length xs) 513 (omega arith))

queued : (put : Result (Unit {0}) Refusal) (size : ℕ) → is_ok put ≡ true → if_queued put (Ok size) ≡ Ok size
queued (Ok _) size e = refl
queued (Err x) size e = grind arith

module _ (s : Sender Meaning Bool) (xs out : List ℕ) (put : Result (Unit {0}) Refusal) (size : ℕ) (passed : Passed s xs out put size) where
  pub offer_written : (r : Result ℕ Refusal) → r ≡ written (offer_packet s xs) out → r ≡ Ok size
  offer_written r is = is ∙ sym passed.room

  pub offer_answered : Ok size ≡ offer_answer s xs out
  offer_answered =
      sym (cond-true (good_length xs) _ _ passed.long
      ∙ cond-false (leb 256 (s.highest - s.released)) _ _ (lt-leb 256 (s.highest - s.released) passed.window)
      ∙ cond-false (leb 4294967294 s.highest) _ _ (lt-leb 4294967294 s.highest passed.last)
      ∙ ap (if_queued (put_answer s.queue (s.highest + 1) xs)) (sym passed.room)
      ∙ ap (λ a. if_queued a (Ok size)) (sym passed.queue)
      ∙ queued put size passed.done)

  offer_sound : SenderSound s → SenderSound (offered s xs)
  offer_sound sound =
      let w = passed.window in
      let l = passed.last in
      let o = sound.order in
      record {
        stream = sound.stream;
        number = sound.number;
        last = omega arith;
        order = omega arith;
        window = omega arith;
        wanted = λ n e. let b = sound.wanted n e in (b.0, omega (arith, b.1));
      }

  pub offer_is : (queue : Meaning) → queue ≡ put_after (is_ok put) s.queue (s.highest + 1) xs → with_next s queue ≡ offered s xs
  offer_is queue is = ap (with_next s) (is ∙ ap (λ b. put_after b s.queue (s.highest + 1) xs) passed.done)

  pub offer_keeps : (queue : Meaning) → with_next s queue ≡ offered s xs → SenderSound s → SenderSound (with_next s queue)
  offer_keeps queue is sound = subst SenderSound (sym is) (offer_sound sound)
