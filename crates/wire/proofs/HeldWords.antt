-- The flags of 32 numbers, as a HACK holds them. Assumes nothing.
use Rattle.std.proofs.Common.{◌≡◌, ℕ, ◌+◌, ◌-◌, ◌*◌, ◌/◌, ◌%◌, ◌^◌, ◌<◌, ◌≤◌, min, max, Bool, true, false, cond, ◌&&◌, ◌||◌, eqb, ltb, leb, List, get_or, sym, ap, ◌∙◌, inl, inr, arith}
use lib.Bits.{bit_and, bit_or, and_le_r, or_lt}
use Rattle.std.proofs.lemmas.Bool.{cases_lt, lt-ltb, le-ltb, le-leb, lt-leb}
use Rattle.std.proofs.lemmas.Bool.Decides.{nat_tests}
use Rattle.wire.specs.Flags.{flag_at, flag_of, leading_ones, held_by, word_from}
use Rattle.wire.specs.declared.packet.Hack.{Hack}
use Rattle.wire.proofs.Words.{flag_two, flag_and, flag_or, flag_leading_ones, leading_ones_below}
use Rattle.wire.proofs.Packed.{word_from_is}

-- flags are 0 or 1
most_one : (f : ℕ) (b : Bool) → f < 2 → max (min f (cond b 1 0)) 1 ≡ 1
most_one f true l = omega arith
most_one f false l = omega arith

as_flag : (f : ℕ) → f < 2 → max (min f 1) 0 ≡ cond (eqb f 1) 1 0
as_flag f l = grind (arith, nat_tests)

-- whether number n is held, by where it lies
pub held_below : (h : Hack) (n : ℕ) → n < h.lsn → held_by h n ≡ true
held_below h n l = ap (λ b. b || (leb n h.hsn && eqb (flag_of h.lsn h.flags n) 1)) (lt-ltb n h.lsn l)

held_above : (h : Hack) (n : ℕ) → h.lsn ≤ n → h.hsn < n → held_by h n ≡ false
held_above h n l o =
    ap (λ b. b || (leb n h.hsn && eqb (flag_of h.lsn h.flags n) 1)) (le-ltb n h.lsn l) ∙ ap (λ b. b && eqb (flag_of h.lsn h.flags n) 1) (lt-leb n h.hsn o)

held_between : (h : Hack) (n : ℕ) → h.lsn ≤ n → n ≤ h.hsn → held_by h n ≡ eqb (flag_of h.lsn h.flags n) 1
held_between h n l o =
    ap (λ b. b || (leb n h.hsn && eqb (flag_of h.lsn h.flags n) 1)) (le-ltb n h.lsn l) ∙ ap (λ b. b && eqb (flag_of h.lsn h.flags n) 1) (le-leb n h.hsn o)

-- below LSN all are held
pub all_held : (h : Hack) (block : ℕ) → block < h.lsn / 32 → 4294967295 ≡ word_from (held_by h) block
unfolding leading_ones
all_held h block l =
    word_from_is (held_by h) block 4294967295 (omega arith) (λ j lj.
    flag_leading_ones 32 j (omega arith) lj ∙ ap (λ b. cond b 1 0) (lt-ltb j 32 lj ∙ sym (held_below h (32 * block + j) (omega arith))))

-- the flag of n stands in the word of its block
flag_in_block : (lsn block j : ℕ) (words : List ℕ) → lsn ≤ 32 * block + j → j < 32 → lsn / 32 ≤ block → flag_of lsn words (32 * block + j) ≡ flag_at (get_or words (block - lsn / 32) 0) j
unfolding flag_of
flag_in_block lsn block j words l lj first =
    let place : (lsn % 32 + (32 * block + j - lsn)) / 32 ≡ block - lsn / 32 = omega arith in
    let at : (32 * block + j) % 32 ≡ j = omega arith in
    ap (λ i. flag_at (get_or words i 0) ((32 * block + j) % 32)) place ∙ ap (flag_at (get_or words (block - lsn / 32) 0)) at

-- from LSN's word on: the flags, cleared past HSN and set before LSN
pub held_word : (h : Hack) (block w : ℕ) → h.lsn / 32 ≤ block → w ≡ get_or h.flags (block - h.lsn / 32) 0 → bit_or (bit_and w (leading_ones (min 32 (h.hsn + 1 - 32 * block)))) (leading_ones (min 32 (h.lsn - 32 * block))) ≡ word_from (held_by h) block
held_word h block w first is =
    let s = min 32 (h.hsn + 1 - 32 * block) in
    let a = min 32 (h.lsn - 32 * block) in
    let small : bit_and w (leading_ones s) < 2 ^ 32 = omega (arith, and_le_r w (leading_ones s), leading_ones_below s) in
    word_from_is (held_by h) block _ (or_lt 32 (bit_and w (leading_ones s)) (leading_ones a) small (leading_ones_below a)) (λ j lj.
    let flags : flag_at (bit_or (bit_and w (leading_ones s)) (leading_ones a)) j ≡ max (min (flag_at w j) (cond (ltb j s) 1 0)) (cond (ltb j a) 1 0) =
    flag_or (bit_and w (leading_ones s)) (leading_ones a) j ∙ ap (λ x. max x (flag_at (leading_ones a) j)) (flag_and w (leading_ones s) j ∙ ap (min (flag_at w j)) (flag_leading_ones s j (omega arith) lj)) ∙ ap (max (min (flag_at w j) (cond (ltb j s) 1 0))) (flag_leading_ones a j (omega arith) lj) in
    let two = flag_two w j in
    flags ∙ elim (cases_lt (32 * block + j) h.lsn) [
      | inl below ↦
          let ja : ltb j a ≡ true = lt-ltb j a (omega arith) in
          ap (λ b. max (min (flag_at w j) (cond (ltb j s) 1 0)) (cond b 1 0)) ja ∙ most_one (flag_at w j) (ltb j s) two ∙ ap (λ b. cond b 1 0) (sym (held_below h (32 * block + j) below))
      | inr from ↦
          let ja : ltb j a ≡ false = le-ltb j a (omega arith) in
          ap (λ b. max (min (flag_at w j) (cond (ltb j s) 1 0)) (cond b 1 0)) ja
          ∙ elim (cases_lt h.hsn (32 * block + j)) [
            | inl past ↦
                let js : ltb j s ≡ false = le-ltb j s (omega arith) in
                let none : max (min (flag_at w j) 0) 0 ≡ 0 = omega arith in
                ap (λ b. max (min (flag_at w j) (cond b 1 0)) 0) js ∙ none ∙ ap (λ b. cond b 1 0) (sym (held_above h (32 * block + j) from past))
            | inr through ↦
                let js : ltb j s ≡ true = lt-ltb j s (omega arith) in
                let flag : flag_of h.lsn h.flags (32 * block + j) ≡ flag_at w j = flag_in_block h.lsn block j h.flags from lj first ∙ ap (λ x. flag_at x j) (sym is) in
                ap (λ b. max (min (flag_at w j) (cond b 1 0)) 0) js ∙ as_flag (flag_at w j) two ∙ ap (λ b. cond b 1 0) (ap (λ x. eqb x 1) (sym flag) ∙ sym (held_between h (32 * block + j) from through))
          ]
    ])
