-- The flags of the rows together, one row after another. Assumes nothing.
use Rattle.std.proofs.Common.{◌≡◌, ℕ, ◌+◌, ◌*◌, min, Bool, true, false, cond, ◌&&◌, List, [], ◌∷◌, sym, ap, ◌∙◌, arith}
use Rattle.std.specs.List.{fold, list_all}
use lib.Bits.{bit_and, and_le_r}
use Rattle.std.proofs.Math.Bool.{and_assoc, and-true}
use Rattle.std.proofs.lemmas.Bool.{lt-ltb}
use Rattle.wire.specs.Flags.{word_from, leading_ones}
use Rattle.wire.proofs.Words.{flag_and, flag_leading_ones}
use Rattle.wire.proofs.Packed.{word_from_flag, word_from_below, word_from_is}
use Rattle.rows.specs.declared.row.Row.{Row}
use Rattle.rows.specs.Rows.{row_holds}

-- what is left of a word once a row has been looked at too
abbrev pub with_row : ℕ → ℕ → Row → ℕ
with_row block w r = bit_and w (word_from (row_holds r) block)

-- flags that are both 1
both : (a b : Bool) → min (cond a 1 0) (cond b 1 0) ≡ cond (a && b) 1 0
both true true = omega arith
both true false = omega arith
both false true = omega arith
both false false = omega arith

and_word : (f g : ℕ → Bool) (block : ℕ) → bit_and (word_from f block) (word_from g block) ≡ word_from (λ n. f n && g n) block
and_word f g block =
    word_from_is (λ n. f n && g n) block _ (omega (arith, and_le_r (word_from f block) (word_from g block), word_from_below g block)) (λ j lj.
    flag_and (word_from f block) (word_from g block) j
    ∙ (λ i. min (word_from_flag f block j lj i) (word_from_flag g block j lj i))
    ∙ both (f (32 * block + j)) (g (32 * block + j)))

same_word : (f g : ℕ → Bool) (block : ℕ) → ((n : ℕ) → f n ≡ g n) → word_from f block ≡ word_from g block
same_word f g block same =
    word_from_is g block _ (word_from_below f block) (λ j lj. word_from_flag f block j lj ∙ ap (λ b. cond b 1 0) (same (32 * block + j)))

joined_from : (f : ℕ → Bool) (block : ℕ) (rs : List Row) → fold (with_row block) (word_from f block) rs ≡ word_from (λ n. f n && list_all (λ r. row_holds r n) rs) block
joined_from f block [] = same_word f _ block (λ n. sym (and-true (f n)))
joined_from f block (r ∷ rs) =
    ap (λ w. fold (with_row block) w rs) (and_word f (row_holds r) block)
    ∙ joined_from (λ n. f n && row_holds r n) block rs
    ∙ same_word _ _ block (λ n. and_assoc (f n) (row_holds r n) (list_all (λ r. row_holds r n) rs))

-- all of them, from a word whose flags are all set
pub joined_all : (block : ℕ) (rs : List Row) → fold (with_row block) 4294967295 rs ≡ word_from (λ n. list_all (λ r. row_holds r n) rs) block
unfolding leading_ones
joined_all block rs =
    let full : 4294967295 ≡ word_from (λ n. true) block = word_from_is (λ n. true) block 4294967295 (omega arith) (λ j lj. flag_leading_ones 32 j (omega arith) lj ∙ ap (λ b. cond b 1 0) (lt-ltb j 32 lj)) in
    ap (λ w. fold (with_row block) w rs) full ∙ joined_from (λ n. true) block rs
