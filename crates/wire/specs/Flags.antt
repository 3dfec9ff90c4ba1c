-- The flag words of a HACK. Position 0 of a word is its highest bit. Number n has its flag in word
-- (LSN mod 32 + n - LSN) / 32, at position n mod 32. Assumes nothing.
use Rattle.std.specs.Prelude.{◌≡◌, ℕ, zero, suc, ◌+◌, ◌-◌, ◌*◌, ◌/◌, ◌%◌, ◌^◌, ◌<◌, ◌≤◌, min, Bool, cond, not, ◌&&◌, ◌||◌, List, map, filter, ◌==◌, bit_and, bit_or, nat_le, nat_lt, slice_index}
use Rattle.std.specs.List.{range_with_len}
use Rattle.wire.specs.declared.packet.Hack.{Hack}

-- the flag at position j of a word
unfoldable pub flag_at : ℕ → ℕ → ℕ
flag_at w j = w / 2 ^ (31 - j) % 2

-- how many words hold the flags of LSN to HSN
unfoldable pub word_count : ℕ → ℕ → ℕ
word_count lsn hsn = cond (nat_lt hsn lsn) 0 ((lsn % 32 + (hsn - lsn)) / 32 + 1)

-- in which word number n has its flag, where LSN ≤ n
abbrev pub word_of : ℕ → ℕ → ℕ
word_of lsn n = (lsn % 32 + (n - lsn)) / 32

-- the flag of number n in the words of a HACK; a word past the last counts as 0
unfoldable pub flag_of : ℕ → List ℕ → ℕ → ℕ
flag_of lsn words n = flag_at (slice_index words (word_of lsn n)) (n % 32)

-- the word whose first k positions are 1, and whose others are 0
unfoldable pub leading_ones : ℕ → ℕ
leading_ones k = 2 ^ 32 - 2 ^ (32 - k)

-- of the first n positions of all words, how many lie in word i
unfoldable pub positions_in : ℕ → ℕ → ℕ
positions_in n i = min 32 (n - 32 * i)

-- a word with its first a positions set to 1, and those from position s on to 0
unfoldable pub trimmed : ℕ → ℕ → ℕ → ℕ
trimmed a s w = bit_and (bit_or w (leading_ones a)) (leading_ones s)

-- word i, with the positions before LSN set to 1 and those after HSN to 0
unfoldable pub canonical_word : ℕ → ℕ → ℕ → ℕ → ℕ
canonical_word lsn hsn i w = trimmed (positions_in (lsn % 32) i) (positions_in (lsn % 32 + (hsn + 1 - lsn)) i) w

-- nine words, each so; f i is the word i that they are made from
unfoldable pub canonical_words : ℕ → ℕ → (ℕ → ℕ) → List ℕ
canonical_words lsn hsn f = map (λ i. canonical_word lsn hsn i (f i)) (range_with_len 0 9)

-- whether a HACK says that number n is held: it lies below LSN, or from LSN to HSN with flag 1
abbrev pub held_by : Hack → ℕ → Bool
held_by h n = nat_lt n h.lsn || (nat_le n h.hsn && flag_of h.lsn h.flags n == 1)

-- whether a HACK says that number n is missing: it lies from LSN to HSN and is not held
abbrev pub is_missing : Hack → ℕ → Bool
is_missing h n = nat_le h.lsn n && (nat_le n h.hsn && not (held_by h n))

-- the flags f of k positions as a number, position 0 the highest bit
abbrev pub packed : (ℕ → Bool) → ℕ → ℕ
packed f zero = 0
packed f (suc k) = packed f k * 2 + cond (f k) 1 0

-- the word of the 32 numbers from 32 × block on: 1 where `held` says so
unfoldable pub word_from : (ℕ → Bool) → ℕ → ℕ
word_from held block = packed (λ j. held (32 * block + j)) 32

-- the nine flag words of a report from LSN on: a flag is 1 where `held` says so
abbrev pub held_words : (ℕ → Bool) → ℕ → List ℕ
held_words held lsn = map (λ i. word_from held (lsn / 32 + i)) (range_with_len 0 9)

-- the missing numbers: in order, those from LSN to HSN that are not held
unfoldable pub missing_numbers : Hack → List ℕ
missing_numbers h = filter (λ n. not (held_by h n)) (range_with_len h.lsn (h.hsn + 1 - h.lsn))

-- word i, once w and now r: r has the flags of w from LSN to HSN, 1 before them and 0 after them. Position j of word i is
-- the position 32 i + j of all words, and LSN has the position LSN mod 32 of all
pub record Canonical (lsn hsn i w r : ℕ) : Type 0 where
  pub before : (j : ℕ) → j < 32 → 32 * i + j < lsn % 32 → flag_at r j ≡ 1
  pub inside : (j : ℕ) → j < 32 → lsn % 32 ≤ 32 * i + j → 32 * i + j ≤ lsn % 32 + (hsn - lsn) → lsn ≤ hsn → flag_at r j ≡ flag_at w j
  pub beyond : (j : ℕ) → j < 32 → lsn % 32 + (hsn + 1 - lsn) ≤ 32 * i + j → flag_at r j ≡ 0
