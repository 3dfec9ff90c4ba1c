-- The ranges of a HACK as orders, and the flag of LSN, which is clear. Assumes nothing.
use Rattle.std.proofs.Common.{◌≡◌, ℕ, ◌+◌, ◌-◌, ◌*◌, ◌/◌, ◌%◌, ◌<◌, ◌≤◌, Bool, true, false, cond, ◌&&◌, eqb, ltb, leb, get_or, ap, ◌∙◌, inl, inr, arith}
use Rattle.std.proofs.lemmas.Nat.{mod_below}
use Rattle.std.proofs.lemmas.Bool.{lt-ltb, le-ltb, le-leb, lt-leb, ltb-true, leb-true, eqb-true, eq-eqb, ne_eqb, and_parts, and_from, and_left, and_right, or_from, or_right, or_cases}
use Rattle.wire.specs.declared.packet.Hack.{Hack}
use Rattle.wire.specs.Flags.{flag_at, flag_of, held_by, word_from, held_words}
use Rattle.wire.specs.Ranges.{hack_fields_in_range, low_flag_clear}
use Rattle.wire.proofs.Packed.{word_from_flag}

-- the ranges as orders
pub record Ranged (lsn hsn : ℕ) : Type 0 where
  pub first : 1 ≤ lsn
  pub most : hsn < 4294967295
  pub near : lsn ≤ hsn + 1
  pub far : hsn ≤ lsn + 255

pub ranged_from : (lsn hsn : ℕ) → hack_fields_in_range 1 1 lsn hsn ≡ true → Ranged lsn hsn
ranged_from lsn hsn e =
    let a = and_parts (ltb 0 lsn) (ltb hsn 4294967295 && (leb lsn (hsn + 1) && leb hsn (lsn + 255))) e in
    let b = and_parts (ltb hsn 4294967295) (leb lsn (hsn + 1) && leb hsn (lsn + 255)) a.1 in
    let c = and_parts (leb lsn (hsn + 1)) (leb hsn (lsn + 255)) b.1 in
    let l = ltb-true 0 lsn a.0 in
    record { first = omega arith; most = ltb-true hsn 4294967295 b.0; near = leb-true lsn (hsn + 1) c.0; far = leb-true hsn (lsn + 255) c.1 }

pub ranged_to : (lsn hsn : ℕ) → Ranged lsn hsn → hack_fields_in_range 1 1 lsn hsn ≡ true
ranged_to lsn hsn g =
    and_from (ltb 0 lsn) _ (lt-ltb 0 lsn (omega (arith, g.first)))
    (and_from (ltb hsn 4294967295) _ (lt-ltb hsn 4294967295 g.most)
    (and_from (leb lsn (hsn + 1)) (leb hsn (lsn + 255)) (le-leb lsn (hsn + 1) g.near) (le-leb hsn (lsn + 255) g.far)))

-- a report whose flag of LSN is clear does not hold LSN
pub low_not_held : (h : Hack) → low_flag_clear h.lsn h.hsn (get_or h.flags 0 0) ≡ true → held_by h h.lsn ≡ false
unfolding flag_of
low_not_held h clear =
    let lsn = h.lsn in
    let place : (lsn % 32 + (lsn - lsn)) / 32 ≡ 0 = omega arith in
    or_from (ltb lsn lsn) (leb lsn h.hsn && eqb (flag_of lsn h.flags lsn) 1) (le-ltb lsn lsn (omega arith))
    (elim (or_cases (ltb h.hsn lsn) (eqb (flag_at (get_or h.flags 0 0) (lsn % 32)) 0) clear) [
      | inl none ↦ and_left (leb lsn h.hsn) _ (lt-leb lsn h.hsn (ltb-true h.hsn lsn none))
      | inr zero_flag ↦
          let is : flag_of lsn h.flags lsn ≡ 0 = ap (λ i. flag_at (get_or h.flags i 0) (lsn % 32)) place ∙ eqb-true (flag_at (get_or h.flags 0 0) (lsn % 32)) 0 zero_flag in
          and_right (leb lsn h.hsn) (eqb (flag_of lsn h.flags lsn) 1) (ne_eqb (flag_of lsn h.flags lsn) 1 (λ one. absurd (omega arith)))
    ])

-- the flag of LSN in words that do not hold LSN is clear
pub words_clear : (held : ℕ → Bool) (lsn hsn : ℕ) → held lsn ≡ false → low_flag_clear lsn hsn (get_or (held_words held lsn) 0 0) ≡ true
words_clear held lsn hsn none =
    let at : 32 * (lsn / 32 + 0) + lsn % 32 ≡ lsn = omega arith in
    let small = mod_below lsn 32 (omega arith) in
    or_right (ltb hsn lsn) _
    (eq-eqb (flag_at (word_from held (lsn / 32 + 0)) (lsn % 32)) 0
    (word_from_flag held (lsn / 32 + 0) (lsn % 32) small ∙ ap (λ n. cond (held n) 1 0) at ∙ ap (λ b. cond b 1 0) none))
