-- What a queue does, over the meaning of its store; and what passing a record on from one store to another does.
-- Assumes nothing.
use Rattle.std.specs.Prelude.{ℕ, ◌+◌, Bool, cond, List, Ok, Err, Result, nat_lt}
use Rattle.answer.specs.declared.Refusal.{Refusal}
use Rattle.answer.specs.declared.Refusal.TheVariants.{Exhausted, NotHeld}
use Rattle.store.specs.Pairs.{Meaning, holds, payload_of}
use Rattle.store.specs.Operations.{put_answer, put_after, forget_after}
use Rattle.queue.specs.declared.Queue.{Queue}

-- a queue by the meaning of its store
abbrev pub seen : {S : Type 0} → (S → Meaning) → Queue S → Queue Meaning
seen meaning q = record { store = meaning q.store; highest = q.highest }

-- the number where the record was put, else why it was not
abbrev pub numbered : ℕ → Result (Unit {0}) Refusal → Result ℕ Refusal
numbered n (Ok _) = Ok n
numbered n (Err e) = Err e

-- offer: whether a number is left, then as put does under the next number
abbrev pub offer_answer : Queue Meaning → List ℕ → Result ℕ Refusal
offer_answer q xs = cond (nat_lt q.highest 4294967294) (numbered (q.highest + 1) (put_answer q.store (q.highest + 1) xs)) (Err Exhausted)

abbrev pub offer_after : Bool → Queue Meaning → List ℕ → Queue Meaning
offer_after done q xs = record { store = put_after done q.store (q.highest + 1) xs; highest = cond done (q.highest + 1) q.highest }

-- release: the records through n go, and the numbering goes on
abbrev pub release_after : Queue Meaning → ℕ → Queue Meaning
release_after q n = record { store = forget_after q.store n; highest = q.highest }

-- pass on: whether the first store holds it, then as put does at the second
abbrev pub pass_answer : Meaning → Meaning → ℕ → Result (Unit {0}) Refusal
pass_answer from to n = cond (holds n from.pairs) (put_answer to n (payload_of n from.pairs)) (Err NotHeld)

abbrev pub pass_after : Bool → Meaning → Meaning → ℕ → Meaning
pass_after done from to n = put_after done to n (payload_of n from.pairs)
