-- Slots of 518 bytes, each with a record or free (a length of 0). Assumes nothing.
use Rattle.std.specs.Prelude.{◌≡◌, ℕ, zero, suc, ◌*◌, ◌/◌, ◌%◌, ◌<◌, ◌≤◌, Bool, true, cond, List, [], ◌∷◌, ◌++◌, length, drop, ◌==◌}
use Rattle.store.specs.Pairs.{Pair}
use Rattle.memory.specs.Records.{length_of, record_of}

-- how many slots lie in memory
abbrev pub slot_count : List ℕ → ℕ
slot_count bytes = length bytes / 518

-- the bytes from slot k on
abbrev pub slot : ℕ → List ℕ → List ℕ
slot k bytes = drop (k * 518) bytes

-- what the slot at the front of xs holds: one pair or none
unfoldable pub one : List ℕ → List Pair
one xs = cond (length_of xs == 0) [] (record_of xs ∷ [])

-- the pairs in the first n slots
abbrev pub slots : ℕ → List ℕ → List Pair
slots zero bytes = []
slots (suc n) bytes = slots n bytes ++ one (slot n bytes)

-- the pairs in all slots
abbrev pub slot_pairs : List ℕ → List Pair
slot_pairs bytes = slots (slot_count bytes) bytes

-- no length in the first n slots passes the end of its slot
abbrev pub Short : ℕ → List ℕ → Type 0
Short n bytes = (k : ℕ) → k < n → length_of (slot k bytes) ≤ 512

-- what slot k of count holds lies at home: its number picks that slot
abbrev pub home : ℕ → ℕ → List Pair → Bool
home count k [] = true
home count k (p ∷ ps) = p.number % count == k

-- so does what the first n of count slots hold
abbrev pub Homed : ℕ → ℕ → List ℕ → Type 0
Homed count n bytes = (k : ℕ) → k < n → home count k (one (slot k bytes)) ≡ true
