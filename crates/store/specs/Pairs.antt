-- What a store means: its numbers with their payloads, and its capacity. The pairs are listed in rising
-- order of their numbers, so two stores hold the same pairs exactly if their lists are equal. Assumes nothing.
use Rattle.std.specs.Prelude.{◌≡◌, ℕ, ◌+◌, ◌<◌, ◌≤◌, Bool, true, false, cond, not, ◌&&◌, List, [], ◌∷◌, length, ◌==◌, nat_lt}

-- a number with its payload, a list of bytes
pub record Pair : Type 0 where
  pub number : ℕ
  pub payload : List ℕ

abbrev pub pair : ℕ → List ℕ → Pair
pair n xs = record { number = n; payload = xs }

pub record Meaning : Type 0 where
  pub capacity : ℕ
  pub pairs : List Pair

-- whether a number is held
abbrev pub holds : ℕ → List Pair → Bool
holds n [] = false
holds n (p ∷ ps) = cond (n == p.number) true (holds n ps)

-- the payload under a number, empty where the number is not held
abbrev pub payload_of : ℕ → List Pair → List ℕ
payload_of n [] = []
payload_of n (p ∷ ps) = cond (n == p.number) p.payload (payload_of n ps)

-- the pairs with one more, at its place
abbrev pub add : Pair → List Pair → List Pair
add p [] = p ∷ []
add p (q ∷ qs) = cond (nat_lt p.number q.number) (p ∷ (q ∷ qs)) (q ∷ add p qs)

-- the pairs whose number is above k
abbrev pub above : ℕ → List Pair → List Pair
above k [] = []
above k (p ∷ ps) = cond (nat_lt k p.number) (p ∷ above k ps) (above k ps)

-- pairs in any order, put in rising order
abbrev pub in_order : List Pair → List Pair
in_order [] = []
in_order (p ∷ ps) = add p (in_order ps)

-- what may be held: a number from 1 to 4,294,967,294 with 1 to 512 bytes
abbrev pub good_number : ℕ → Bool
good_number n = nat_lt 0 n && nat_lt n 4294967295

abbrev pub good_length : List ℕ → Bool
good_length xs = nat_lt 0 (length xs) && nat_lt (length xs) 513

abbrev pub good : Pair → Bool
good p = good_number p.number && good_length p.payload

-- each pair may be held, and no number comes twice
abbrev pub distinct : List Pair → Bool
distinct [] = true
distinct (p ∷ ps) = good p && (not (holds p.number ps) && distinct ps)

-- each number of the list is above n
abbrev pub Over : ℕ → List Pair → Type 0
Over n [] = Unit {0}
Over n (p ∷ ps) = (n < p.number) × Over n ps

abbrev pub Rising : List Pair → Type 0
Rising [] = Unit {0}
Rising (p ∷ ps) = Over p.number ps × Rising ps

-- what the meaning of every store is
pub record Sound (m : Meaning) : Type 0 where
  pub rising : Rising m.pairs
  pub distinct : distinct m.pairs ≡ true
  pub room : length m.pairs ≤ m.capacity

-- the lowest number from k on that is not held, by a walk over rising pairs
abbrev pub lowest_missing : ℕ → List Pair → ℕ
lowest_missing k [] = k
lowest_missing k (p ∷ ps) = cond (k == p.number) (lowest_missing (k + 1) ps) (cond (nat_lt p.number k) (lowest_missing k ps) k)

-- r is the lowest number from k on that is not held
pub record Lowest (k : ℕ) (ps : List Pair) (r : ℕ) : Type 0 where
  pub from : k ≤ r
  pub missing : holds r ps ≡ false
  pub below : (n : ℕ) → k ≤ n → n < r → holds n ps ≡ true
