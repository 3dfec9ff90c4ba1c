-- Flags in a word: which positions `trimmed` sets, clears and keeps. Assumes nothing.
use Rattle.std.proofs.Common.{◌≡◌, ℕ, zero, suc, ◌+◌, ◌-◌, ◌*◌, ◌/◌, ◌%◌, ◌^◌, ◌<◌, ◌≤◌, min, max, Bool, true, cond, not, ◌&&◌, eqb, ltb, ◌⊎◌, sym, refl, ap, ◌∙◌, inl, inr, arith}
use lib.Bits.{bit_and, bit_or, and_step, or_step, and_shr, or_shr, and_le_r}
use Rattle.std.proofs.lemmas.Nat.{div-mul-add, mod-mul-add, pow_pos, pow-add, shr-shr, mod_below, div_below}
use Rattle.std.proofs.lemmas.Bool.{cases_lt, lt-ltb, le-ltb}
use Rattle.std.proofs.lemmas.Bool.Decides.{Decides-eqb, Decides-below_and, nat_tests}
use Rattle.wire.specs.Flags.{flag_at, leading_ones, trimmed, positions_in, canonical_word, Canonical}

-- a test that passes at each number below n
abbrev every : (ℕ → Bool) → ℕ → Bool
every f zero = true
every f (suc n) = f n && every f n

-- an equation at each number below n, by a test that computes
pub at_each : (f g : ℕ → ℕ) (n : ℕ) → every (λ k. eqb (f k) (g k)) n ≡ true → (k : ℕ) → k < n → f k ≡ g k
at_each f g n t =
    (Decides-below_and (λ k. eqb (f k) (g k)) (λ k. f k ≡ g k) (every (λ k. eqb (f k) (g k))) (λ k. Decides-eqb (f k) (g k)) refl (λ _. refl) n).0 t

pub leading_ones_shift : (k : ℕ) → k ≤ 32 → 4294967295 * 2 ^ (32 - k) % 4294967296 ≡ leading_ones k
unfolding leading_ones
leading_ones_shift k h = at_each (λ k. 4294967295 * 2 ^ (32 - k) % 4294967296) (λ k. 2 ^ 32 - 2 ^ (32 - k)) 33 refl k (omega arith)

pub leading_ones_below : (k : ℕ) → leading_ones k < 2 ^ 32
unfolding leading_ones
leading_ones_below k = omega (arith, pow_pos (32 - k))

-- a table of 33 by 32 places, which antt computes
pub flag_leading_ones : (k j : ℕ) → k ≤ 32 → j < 32 → flag_at (leading_ones k) j ≡ cond (ltb j k) 1 0
unfolding leading_ones flag_at
flag_leading_ones k j hk hj =
    let e = at_each (λ m. flag_at (leading_ones (m / 32)) (m % 32)) (λ m. cond (ltb (m % 32) (m / 32)) 1 0) 1056 refl (k * 32 + j) (omega arith) in
    simp (div-mul-add k 32 j hj, mod-mul-add k 32 j hj) at e

pub flag_two : (w j : ℕ) → flag_at w j < 2
unfolding flag_at
flag_two w j = mod_below (w / 2 ^ (31 - j)) 2 (omega arith)

pub flag_and : (a b j : ℕ) → flag_at (bit_and a b) j ≡ min (flag_at a j) (flag_at b j)
unfolding flag_at
flag_and a b j =
    let k = 31 - j in
    let x = a / 2 ^ k in
    let y = b / 2 ^ k in
    let lx = mod_below x 2 (omega arith) in
    let ly = mod_below y 2 (omega arith) in
    ap (λ n. n % 2) (and_shr a b k ∙ and_step x y) ∙ mod-mul-add (bit_and (x / 2) (y / 2)) 2 (min (x % 2) (y % 2)) (omega arith)

pub flag_or : (a b j : ℕ) → flag_at (bit_or a b) j ≡ max (flag_at a j) (flag_at b j)
unfolding flag_at
flag_or a b j =
    let k = 31 - j in
    let x = a / 2 ^ k in
    let y = b / 2 ^ k in
    let lx = mod_below x 2 (omega arith) in
    let ly = mod_below y 2 (omega arith) in
    ap (λ n. n % 2) (or_shr a b k ∙ or_step x y) ∙ mod-mul-add (bit_or (x / 2) (y / 2)) 2 (max (x % 2) (y % 2)) (omega arith)

-- numbers with the same bits are the same
same_bits : (n x y : ℕ) → x < 2 ^ n → y < 2 ^ n → ((k : ℕ) → k < n → x / 2 ^ k % 2 ≡ y / 2 ^ k % 2) → x ≡ y
same_bits zero x y hx hy same = omega arith
same_bits (suc n) x y hx hy same =
    let two : 2 ^ suc n ≡ 2 ^ n * 2 = ap (λ m. 2 ^ m) (omega arith) ∙ pow-add 2 n 1 in
    let half : x / 2 ≡ y / 2 = same_bits n (x / 2) (y / 2) (div_below x 2 (2 ^ n) (omega arith) (omega arith)) (div_below y 2 (2 ^ n) (omega arith) (omega arith))
    (λ k h. ap (λ m. m % 2) (shr-shr x 1 k) ∙ ap (λ m. x / 2 ^ m % 2) (omega arith) ∙ same (suc k) (omega arith) ∙ ap (λ m. y / 2 ^ m % 2) (omega arith) ∙ ap (λ m. m % 2) (sym (shr-shr y 1 k))) in
    let low : x / 1 % 2 ≡ y / 1 % 2 = same 0 (omega arith) in
    omega arith

pub flag_ext : (x y : ℕ) → x < 2 ^ 32 → y < 2 ^ 32 → ((j : ℕ) → j < 32 → flag_at x j ≡ flag_at y j) → x ≡ y
unfolding flag_at
flag_ext x y hx hy same =
    same_bits 32 x y hx hy (λ k h. let e : 31 - (31 - k) ≡ k = omega arith in simp e at (same (31 - k) (omega arith)))

-- `trimmed` sets the positions below a, clears those from s on, and keeps the others
module _ (a s w j : ℕ) (ha : a ≤ 32) (hs : s ≤ 32) (hj : j < 32) where
  at_trimmed : flag_at (trimmed a s w) j ≡ min (max (flag_at w j) (cond (ltb j a) 1 0)) (cond (ltb j s) 1 0)
  unfolding trimmed
  at_trimmed = flag_and (bit_or w (leading_ones a)) (leading_ones s) j ∙ (λ i. min (flag_or w (leading_ones a) j i) (flag_leading_ones s j hs hj i)) ∙ ap (λ m. min (max (flag_at w j) m) (cond (ltb j s) 1 0)) (flag_leading_ones a j ha hj)

  pub trimmed_before : j < a → a ≤ s → flag_at (trimmed a s w) j ≡ 1
  trimmed_before h k = let two = flag_two w j in rw (at_trimmed, lt-ltb j a h, lt-ltb j s (omega arith)) (omega arith)

  pub trimmed_inside : a ≤ j → j < s → flag_at (trimmed a s w) j ≡ flag_at w j
  trimmed_inside h k = let two = flag_two w j in rw (at_trimmed, le-ltb j a h, lt-ltb j s k) (omega arith)

  pub trimmed_after : s ≤ j → flag_at (trimmed a s w) j ≡ 0
  trimmed_after h = rw (at_trimmed, le-ltb j s h) (omega arith)

pub trimmed_below : (a s w : ℕ) → trimmed a s w < 2 ^ 32
unfolding trimmed
trimmed_below a s w = omega (arith, and_le_r (bit_or w (leading_ones a)) (leading_ones s), leading_ones_below s)

-- what lies outside does not matter
pub trimmed_same : (a s w v : ℕ) → a ≤ 32 → s ≤ 32 → ((j : ℕ) → j < 32 → a ≤ j → j < s → flag_at w j ≡ flag_at v j) → trimmed a s w ≡ trimmed a s v
trimmed_same a s w v ha hs same =
    flag_ext (trimmed a s w) (trimmed a s v) (trimmed_below a s w) (trimmed_below a s v) (λ j hj.
    at_trimmed a s w j ha hs hj ∙ here j hj (cases_lt j a) (cases_lt j s) ∙ sym (at_trimmed a s v j ha hs hj))
  where
    here : (j : ℕ) → j < 32 → (j < a) ⊎ (a ≤ j) → (j < s) ⊎ (s ≤ j)
        → min (max (flag_at w j) (cond (ltb j a) 1 0)) (cond (ltb j s) 1 0) ≡ min (max (flag_at v j) (cond (ltb j a) 1 0)) (cond (ltb j s) 1 0)
    here j hj (inl p) q = let x = flag_two w j in let y = flag_two v j in rw (lt-ltb j a p) (omega arith)
    here j hj (inr p) (inl q) = rw (same j hj p q)
    here j hj (inr p) (inr q) = rw (le-ltb j s q) (omega arith)

pub trimmed_twice : (a s w : ℕ) → a ≤ 32 → s ≤ 32 → trimmed a s (trimmed a s w) ≡ trimmed a s w
trimmed_twice a s w ha hs = trimmed_same a s (trimmed a s w) w ha hs (λ j hj p q. trimmed_inside a s w j ha hs hj p q)

pub positions_in_32 : (n i : ℕ) → positions_in n i ≤ 32
unfolding positions_in
positions_in_32 n i = omega arith

pub canonical_twice : (lsn hsn i w : ℕ) → canonical_word lsn hsn i (canonical_word lsn hsn i w) ≡ canonical_word lsn hsn i w
unfolding canonical_word
canonical_twice lsn hsn i w = trimmed_twice _ _ w (positions_in_32 _ i) (positions_in_32 _ i)

pub canonical_below : (lsn hsn i w : ℕ) → canonical_word lsn hsn i w < 2 ^ 32
unfolding canonical_word
canonical_below lsn hsn i w = trimmed_below _ _ w

pub canonical_flags : (lsn hsn i w : ℕ) → Canonical lsn hsn i w (canonical_word lsn hsn i w)
unfolding canonical_word positions_in
canonical_flags lsn hsn i w = record {
  before = λ j h l. trimmed_before _ _ w j (positions_in_32 (lsn % 32) i) (positions_in_32 (lsn % 32 + (hsn + 1 - lsn)) i) h (omega arith) (omega arith);
  inside = λ j h l u o. trimmed_inside _ _ w j (positions_in_32 (lsn % 32) i) (positions_in_32 (lsn % 32 + (hsn + 1 - lsn)) i) h (omega arith) (omega arith);
  beyond = λ j h l. trimmed_after _ _ w j (positions_in_32 (lsn % 32) i) (positions_in_32 (lsn % 32 + (hsn + 1 - lsn)) i) h (omega arith);
}

pub flag_none : (j : ℕ) → flag_at 0 j ≡ 0
unfolding flag_at
flag_none j = let e : 0 / 2 ^ (31 - j) ≡ 0 = omega (arith, div_below 0 (2 ^ (31 - j)) 1 (pow_pos (31 - j)) (omega (arith, pow_pos (31 - j)))) in ap (λ n. n % 2) e

-- a flag that is not set is 0
pub flag_clear : (w j : ℕ) → j < 32 → not (ltb j 32 && eqb (flag_at w j) 1) ≡ eqb (flag_at w j) 0
flag_clear w j h = ap (λ b. not (b && eqb (flag_at w j) 1)) (lt-ltb j 32 h) ∙ turned (flag_at w j) (flag_two w j)
  where
    turned : (f : ℕ) → f < 2 → not (eqb f 1) ≡ eqb f 0
    turned f l = grind (arith, nat_tests)
