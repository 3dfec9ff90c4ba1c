-- Numbers as bytes, highest byte first, and bytes put into a buffer. Assumes nothing.
use Rattle.std.specs.Prelude.{ℕ, ◌+◌, ◌*◌, ◌/◌, ◌%◌, List, [], ◌∷◌, ◌++◌, length, take, drop, slice_index}

-- the number of two, or of four, bytes from place i on; a byte past the end counts as 0
unfoldable pub short_at : List ℕ → ℕ → ℕ
short_at b i = slice_index b i * 256 + slice_index b (i + 1)

unfoldable pub field_at : List ℕ → ℕ → ℕ
field_at b i = slice_index b i * 16777216 + slice_index b (i + 1) * 65536 + slice_index b (i + 2) * 256 + slice_index b (i + 3)

unfoldable pub short_bytes : ℕ → List ℕ
short_bytes n = (n / 256 % 256) ∷ (n % 256) ∷ []

unfoldable pub field_bytes : ℕ → List ℕ
field_bytes n = (n / 16777216 % 256) ∷ (n / 65536 % 256) ∷ (n / 256 % 256) ∷ (n % 256) ∷ []

-- the buffer with xs at place i; bytes before and beyond remain
unfoldable pub overwrite : ℕ → List ℕ → List ℕ → List ℕ
overwrite i xs out = take i out ++ (xs ++ drop (i + length xs) out)
