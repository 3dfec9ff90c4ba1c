-- Which numbers are wanted: none at first, and then what a HACK says is missing. Assumes nothing.
use Rattle.std.proofs.Common.{◌≡◌, ℕ, ◌+◌, ◌-◌, ◌*◌, ◌/◌, ◌%◌, ◌<◌, ◌≤◌, Bool, true, false, cond, ◌&&◌, eqb, leb, length, get_or, replicate, sym, refl, ap, ◌∙◌, inl, inr, arith}
use lib.ListN.{get_or-replicate}
use Rattle.std.proofs.lemmas.List.FromFn.{get_or-map-range_with_len, length-map-range_with_len}
use Rattle.std.proofs.lemmas.List.{get_or_past}
use Rattle.std.proofs.Math.Bool.{and-false}
use Rattle.std.proofs.lemmas.Bool.Decides.{nat_tests}
use Rattle.std.proofs.lemmas.Bool.{cases_lt}
use Rattle.wire.specs.Flags.{flag_at, is_missing, word_from}
use Rattle.wire.specs.declared.packet.Hack.{Hack}
use Rattle.wire.proofs.Words.{flag_none}
use Rattle.wire.proofs.Packed.{word_from_flag}
use Rattle.sender.specs.declared.wanted.Wanted.{Wanted}
use Rattle.sender.specs.WantedNumbers.{wants, none_wanted, missing_of}

as_test : (b : Bool) → eqb (cond b 1 0) 1 ≡ b
as_test true = refl
as_test false = refl

-- a number before the first word, or whose word is 0, is not wanted
pub not_before : (w : Wanted) (n : ℕ) → n / 32 < w.first → wants w n ≡ false
not_before w n l = grind (arith, nat_tests)

pub not_in_zero : (w : Wanted) (n : ℕ) → get_or w.words (n / 32 - w.first) 0 ≡ 0 → wants w n ≡ false
not_in_zero w n z =
    ap (λ x. leb w.first (n / 32) && eqb (flag_at x (n % 32)) 1) z ∙ ap (λ x. leb w.first (n / 32) && eqb x 1) (flag_none (n % 32)) ∙ and-false (leb w.first (n / 32))

-- from the first word on the flag tells
pub by_flag : (w : Wanted) (n : ℕ) → w.first ≤ n / 32 → wants w n ≡ eqb (flag_at (get_or w.words (n / 32 - w.first) 0) (n % 32)) 1
by_flag w n l = grind (arith, nat_tests)

pub none_wants : (n : ℕ) → wants none_wanted n ≡ false
none_wants n =
    not_in_zero none_wanted n (elim (cases_lt (n / 32 - 0) 9) [
      | inl inside ↦ get_or-replicate 9 (n / 32 - 0) 0 0 inside
      | inr past ↦ get_or_past (replicate 9 0) (n / 32 - 0) 0 past
    ])

-- outside LSN to HSN nothing is missing
missing_below : (h : Hack) (n : ℕ) → n < h.lsn → is_missing h n ≡ false
missing_below h n l = grind (arith, nat_tests)

missing_above : (h : Hack) (n : ℕ) → h.hsn < n → is_missing h n ≡ false
missing_above h n l = grind (arith, nat_tests)

-- nine words have room for all from LSN to HSN
pub missing_wants : (h : Hack) (n : ℕ) → h.hsn ≤ h.lsn + 255 → wants (missing_of h) n ≡ is_missing h n
unfolding missing_of
missing_wants h n bound =
    let first = h.lsn / 32 in
    let word = λ (i : ℕ). word_from (is_missing h) (first + i) in
    elim (cases_lt (n / 32) first) [
      | inl before ↦ not_before (missing_of h) n before ∙ sym (missing_below h n (omega arith))
      | inr from ↦
          elim (cases_lt (n / 32 - first) 9) [
            | inl inside ↦
                let here : 32 * (first + (n / 32 - first)) + n % 32 ≡ n = omega arith in
                by_flag (missing_of h) n from
                ∙ ap (λ x. eqb (flag_at x (n % 32)) 1) (get_or-map-range_with_len word 0 9 (n / 32 - first) (n / 32 - first) 0 inside (omega arith))
                ∙ ap (λ x. eqb x 1) (word_from_flag (is_missing h) (first + (n / 32 - first)) (n % 32) (omega arith))
                ∙ as_test (is_missing h (32 * (first + (n / 32 - first)) + n % 32))
                ∙ ap (is_missing h) here
            | inr past ↦
                not_in_zero (missing_of h) n (let long : length (missing_of h).words ≤ n / 32 - first = omega (arith, length-map-range_with_len word 0 9) in get_or_past (missing_of h).words (n / 32 - first) 0 long)
                ∙ sym (missing_above h n (omega arith))
          ]
    ]

-- what is missing lies from LSN to HSN
pub missing_from : (h : Hack) (n : ℕ) → is_missing h n ≡ true → h.lsn ≤ n
missing_from h n e = grind (arith, nat_tests)

pub missing_through : (h : Hack) (n : ℕ) → is_missing h n ≡ true → n ≤ h.hsn
missing_through h n e = grind (arith, nat_tests)
