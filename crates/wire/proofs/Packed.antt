-- A word made from 32 flags has these flags, and no other word does. Assumes nothing.
use Rattle.std.proofs.Common.{◌≡◌, ℕ, zero, suc, ◌+◌, ◌-◌, ◌*◌, ◌/◌, ◌%◌, ◌^◌, ◌<◌, Bool, true, false, cond, sym, ap, ◌∙◌, inl, inr, arith}
use Rattle.std.proofs.lemmas.Nat.{pow-add, shr-shr, div-mul-add, mod-mul-add}
use Rattle.std.proofs.lemmas.Bool.{cases_eq}
use Rattle.wire.specs.Flags.{flag_at, packed, word_from}
use Rattle.wire.proofs.Words.{flag_ext}

bit : (b : Bool) → cond b 1 0 < 2
bit true = omega arith
bit false = omega arith

packed_below : (f : ℕ → Bool) (k : ℕ) → packed f k < 2 ^ k
packed_below f zero = omega arith
packed_below f (suc k) =
    let two : 2 ^ suc k ≡ 2 ^ k * 2 = ap (λ m. 2 ^ m) (omega arith) ∙ pow-add 2 k 1 in
    omega (arith, packed_below f k, bit (f k))

packed_flag : (f : ℕ → Bool) (k j : ℕ) → j < k → packed f k / 2 ^ (k - 1 - j) % 2 ≡ cond (f j) 1 0
packed_flag f zero j l = absurd (omega arith)
packed_flag f (suc k) j l =
    let b = bit (f k) in
    elim (cases_eq j k) [
      | inl e ↦
          let z : suc k - 1 - j ≡ 0 = omega arith in
          ap (λ m. (packed f k * 2 + cond (f k) 1 0) / 2 ^ m % 2) z ∙ ap (λ m. m % 2) (omega arith) ∙ mod-mul-add (packed f k) 2 (cond (f k) 1 0) b ∙ ap (λ m. cond (f m) 1 0) (sym e)
      | inr ne ↦
          let lt : j < k = omega arith in
          let z : suc k - 1 - j ≡ 1 + (k - 1 - j) = omega arith in
          ap (λ m. (packed f k * 2 + cond (f k) 1 0) / 2 ^ m % 2) z
          ∙ ap (λ m. m % 2) (sym (shr-shr (packed f k * 2 + cond (f k) 1 0) 1 (k - 1 - j)) ∙ ap (λ m. m / 2 ^ (k - 1 - j)) (div-mul-add (packed f k) 2 (cond (f k) 1 0) b))
          ∙ packed_flag f k j lt
    ]

pub word_from_flag : (held : ℕ → Bool) (block j : ℕ) → j < 32 → flag_at (word_from held block) j ≡ cond (held (32 * block + j)) 1 0
unfolding flag_at word_from
word_from_flag held block j l = packed_flag (λ j. held (32 * block + j)) 32 j l

pub word_from_below : (held : ℕ → Bool) (block : ℕ) → word_from held block < 2 ^ 32
unfolding word_from
word_from_below held block = packed_below (λ j. held (32 * block + j)) 32

-- the word is told by its flags
pub word_from_is : (held : ℕ → Bool) (block w : ℕ) → w < 2 ^ 32 → ((j : ℕ) → j < 32 → flag_at w j ≡ cond (held (32 * block + j)) 1 0) → w ≡ word_from held block
word_from_is held block w small same =
    flag_ext w (word_from held block) small (word_from_below held block) (λ j l. same j l ∙ sym (word_from_flag held block j l))
