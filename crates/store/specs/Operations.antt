-- What each operation of a store answers, and what the store means and the buffer holds afterwards. Assumes nothing.
use Rattle.std.specs.Prelude.{ℕ, Bool, cond, List, ◌++◌, length, drop, Ok, Err, Result, nat_le, nat_lt}
use Rattle.answer.specs.declared.Refusal.{Refusal}
use Rattle.answer.specs.declared.Refusal.TheVariants.{BadNumber, BadLength, Held, Full, NotHeld, ShortBuffer}
use Rattle.store.specs.Pairs.{pair, Meaning, holds, payload_of, add, above, good_number, good_length}

-- put: the number first, then the length, then whether it is held, then the room
abbrev pub put_answer : Meaning → ℕ → List ℕ → Result (Unit {0}) Refusal
put_answer m n xs =
    cond (good_number n)
    (cond (good_length xs)
    (cond (holds n m.pairs) (Err Held)
    (cond (nat_lt (length m.pairs) m.capacity) (Ok tt) (Err Full)))
    (Err BadLength))
    (Err BadNumber)

abbrev pub put_after : Bool → Meaning → ℕ → List ℕ → Meaning
put_after done m n xs = record { capacity = m.capacity; pairs = cond done (add (pair n xs) m.pairs) m.pairs }

-- the part of put's answer that looks at the pair alone
abbrev pub pair_answer : ℕ → List ℕ → Result (Unit {0}) Refusal
pair_answer n xs = cond (good_number n) (cond (good_length xs) (Ok tt) (Err BadLength)) (Err BadNumber)

-- copy: whether the number is held, then the buffer's length
abbrev pub fit_answer : List ℕ → ℕ → Result ℕ Refusal
fit_answer xs room = cond (nat_le (length xs) room) (Ok (length xs)) (Err ShortBuffer)

abbrev pub copy_answer : Meaning → ℕ → ℕ → Result ℕ Refusal
copy_answer m n room = cond (holds n m.pairs) (fit_answer (payload_of n m.pairs) room) (Err NotHeld)

-- bytes at a buffer's front, and beyond them what was there
abbrev pub at_front : Bool → List ℕ → List ℕ → List ℕ
at_front done xs buffer = cond done (xs ++ drop (length xs) buffer) buffer

abbrev pub copy_buffer : Bool → Meaning → ℕ → List ℕ → List ℕ
copy_buffer done m n buffer = at_front done (payload_of n m.pairs) buffer

-- forget: every number up to the given one goes
abbrev pub forget_after : Meaning → ℕ → Meaning
forget_after m n = record { capacity = m.capacity; pairs = above n m.pairs }
