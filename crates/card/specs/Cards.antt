-- What a card with room for one record holds, by its two fields. Assumes nothing.
use Rattle.std.specs.Prelude.{ℕ, cond, Option, Some, None, List, [], ◌∷◌, length, take, nat_le}
use Rattle.store.specs.Pairs.{Pair, pair, Meaning}
use Rattle.card.specs.declared.Held.{Held}

-- room for one record where the memory takes the longest payload, else for none
abbrev pub card_capacity : List ℕ → ℕ
card_capacity bytes = cond (nat_le 512 (length bytes)) 1 0

-- the record that is held, whose payload lies at the front of the memory
abbrev pub card_pairs : Option Held → List ℕ → List Pair
card_pairs None bytes = []
card_pairs (Some h) bytes = pair h.number (take h.len bytes) ∷ []

abbrev pub card_meaning : Option Held → List ℕ → Meaning
card_meaning held bytes = record { capacity = card_capacity bytes; pairs = card_pairs held bytes }
