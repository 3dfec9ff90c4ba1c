-- A record in memory: the number (4 bytes, highest first), the length (2 bytes), the payload.
-- And a run of records that lie end to end. Assumes nothing.
use Rattle.std.specs.Prelude.{◌≡◌, ℕ, zero, suc, ◌+◌, ◌*◌, ◌/◌, ◌%◌, ◌≤◌, true, List, [], ◌∷◌, ◌++◌, length, take, drop, slice_index}
use Rattle.store.specs.Pairs.{Pair, pair, holds, payload_of}

-- the fields of the record at the front of xs
unfoldable pub number_of : List ℕ → ℕ
number_of xs = slice_index xs 0 * 16777216 + slice_index xs 1 * 65536 + slice_index xs 2 * 256 + slice_index xs 3

unfoldable pub length_of : List ℕ → ℕ
length_of xs = slice_index xs 4 * 256 + slice_index xs 5

abbrev pub size_of : List ℕ → ℕ
size_of xs = 6 + length_of xs

abbrev pub body_of : List ℕ → List ℕ
body_of xs = take (length_of xs) (drop 6 xs)

unfoldable pub record_of : List ℕ → Pair
record_of xs = pair (number_of xs) (body_of xs)

-- the first n records of xs, and the bytes that they take
abbrev pub records : ℕ → List ℕ → List Pair
records zero xs = []
records (suc n) xs = record_of xs ∷ records n (drop (size_of xs) xs)

abbrev pub span : ℕ → List ℕ → ℕ
span zero xs = 0
span (suc n) xs = size_of xs + span n (drop (size_of xs) xs)

-- the bytes of a record
unfoldable pub header : ℕ → ℕ → List ℕ
header n k = (n / 16777216 % 256) ∷ (n / 65536 % 256) ∷ (n / 256 % 256) ∷ (n % 256) ∷ (k / 256 % 256) ∷ (k % 256) ∷ []

abbrev pub encoded : ℕ → List ℕ → List ℕ
encoded n xs = header n (length xs) ++ xs

-- the payload of the record at `at`
abbrev pub body_at : ℕ → List ℕ → List ℕ
body_at at bytes = take (length_of (drop at bytes)) (drop (at + 6) bytes)

-- the record with a number among ps lies at `at`
pub record Found (bytes : List ℕ) (ps : List Pair) (n at : ℕ) : Type 0 where
  pub held : holds n ps ≡ true
  pub payload : body_at at bytes ≡ payload_of n ps
  pub within : at + size_of (drop at bytes) ≤ length bytes
