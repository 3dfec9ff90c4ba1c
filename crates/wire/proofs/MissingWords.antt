-- The flags of 32 numbers that a HACK says are missing. Assumes nothing.
use Rattle.std.proofs.Common.{◌≡◌, ℕ, ◌+◌, ◌-◌, ◌*◌, ◌/◌, ◌%◌, ◌^◌, ◌<◌, min, Bool, true, false, cond, not, ◌&&◌, ltb, leb, sym, refl, ap, ◌∙◌, inl, inr, add-mul, one-mul, div-add-mod', arith}
use lib.Bits.{bit_and, and_le_r}
use Rattle.std.proofs.lemmas.Nat.{div-mul-add, div_below, mod_below, pow_pos, pow-add}
use Rattle.std.proofs.lemmas.Bool.{cases_lt, lt-ltb, le-ltb, le-leb, lt-leb}
use Rattle.wire.specs.Flags.{flag_at, leading_ones, held_by, is_missing, word_from}
use Rattle.wire.specs.declared.packet.Hack.{Hack}
use Rattle.wire.proofs.Words.{flag_and, flag_leading_ones, leading_ones_below}
use Rattle.wire.proofs.HeldWords.{held_below}
use Rattle.wire.proofs.Packed.{word_from_is, word_from_flag, word_from_below}

-- every flag turned
flag_not : (w j : ℕ) → w < 2 ^ 32 → j < 32 → flag_at (4294967295 - w) j ≡ 1 - flag_at w j
unfolding flag_at
flag_not w j small l =
    let p = 2 ^ (31 - j) in
    let m = 2 ^ j in
    let q = w / p in
    let r = w % p in
    let pos : 0 < p = pow_pos (31 - j) in
    let all : 1 + j + (31 - j) ≡ 32 = omega arith in
    let whole : 2 * m * p ≡ 2 ^ 32 = ap (λ x. x * p) (sym (pow-add 2 1 j)) ∙ sym (pow-add 2 (1 + j) (31 - j)) ∙ ap (λ x. 2 ^ x) all in
    let below : q < 2 * m = div_below w p (2 * m) pos (omega arith) in
    let t = 2 * m - 1 - q in
    let turned : t + q + 1 ≡ 2 * m = omega arith in
    let parts : t * p + q * p + p ≡ 2 ^ 32 = sym (add-mul (t + q) 1 p ∙ ap (λ x. x + 1 * p) (add-mul t q p) ∙ ap (λ x. t * p + q * p + x) (one-mul p)) ∙ ap (λ x. x * p) turned ∙ whole in
    let low : r < p = mod_below w p pos in
    let is : 4294967295 - w ≡ t * p + (p - 1 - r) = omega (arith, div-add-mod' w p) in
    let over : (4294967295 - w) / p ≡ t = ap (λ x. x / p) is ∙ div-mul-add t p (p - 1 - r) (omega arith) in
    ap (λ x. x % 2) over ∙ omega arith

-- the flag of one number, by whether it lies through HSN and whether it is held
turned : (b : Bool) → min (1 - cond b 1 0) 1 ≡ cond (not b) 1 0
turned true = refl
turned false = refl

-- what is not held, cleared past HSN
pub missing_word : (h : Hack) (block w : ℕ) → w ≡ word_from (held_by h) block → bit_and (4294967295 - w) (leading_ones (min 32 (h.hsn + 1 - 32 * block))) ≡ word_from (is_missing h) block
missing_word h block w is =
    let s = min 32 (h.hsn + 1 - 32 * block) in
    let small : w < 2 ^ 32 = omega (arith, word_from_below (held_by h) block, is) in
    word_from_is (is_missing h) block _ (omega (arith, and_le_r (4294967295 - w) (leading_ones s), leading_ones_below s)) (λ j lj.
    let n = 32 * block + j in
    let flag : flag_at w j ≡ cond (held_by h n) 1 0 = ap (λ x. flag_at x j) is ∙ word_from_flag (held_by h) block j lj in
    let flags : flag_at (bit_and (4294967295 - w) (leading_ones s)) j ≡ min (1 - cond (held_by h n) 1 0) (cond (ltb j s) 1 0) =
    flag_and (4294967295 - w) (leading_ones s) j ∙ ap (min _) (flag_leading_ones s j (omega arith) lj) ∙ ap (λ x. min x (cond (ltb j s) 1 0)) (flag_not w j small lj ∙ ap (λ x. 1 - x) flag) in
    flags ∙ elim (cases_lt n h.lsn) [
      | inl below ↦
          let none : min 0 (cond (ltb j s) 1 0) ≡ 0 = omega arith in
          ap (λ b. min (1 - cond b 1 0) (cond (ltb j s) 1 0)) (held_below h n below) ∙ none ∙ ap (λ b. cond (b && (leb n h.hsn && not (held_by h n))) 1 0) (sym (lt-leb h.lsn n below))
      | inr from ↦
          elim (cases_lt h.hsn n) [
            | inl past ↦
                let none : min (1 - cond (held_by h n) 1 0) 0 ≡ 0 = omega arith in
                ap (λ b. min (1 - cond (held_by h n) 1 0) (cond b 1 0)) (le-ltb j s (omega arith)) ∙ none
                ∙ ap (λ b. cond b 1 0) (sym (ap (λ b. b && (leb n h.hsn && not (held_by h n))) (le-leb h.lsn n from) ∙ ap (λ b. b && not (held_by h n)) (lt-leb n h.hsn past)))
            | inr through ↦
                ap (λ b. min (1 - cond (held_by h n) 1 0) (cond b 1 0)) (lt-ltb j s (omega arith)) ∙ turned (held_by h n)
                ∙ ap (λ b. cond b 1 0) (sym (ap (λ b. b && (leb n h.hsn && not (held_by h n))) (le-leb h.lsn n from) ∙ ap (λ b. b && not (held_by h n)) (le-leb n h.hsn through)))
          ]
    ])
