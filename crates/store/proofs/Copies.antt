-- What a copy that was not refused tells of the store, and of the buffer's front. Assumes nothing.
use Rattle.std.proofs.Common.{◌≡◌, ℕ, true, List, length, take, Ok, sym, ap, ◌∙◌, arith}
use Rattle.std.proofs.lemmas.List.{take_at}
use Rattle.std.proofs.lemmas.Bool.Decides.{nat_tests}
use Rattle.store.specs.Pairs.{Meaning, holds, payload_of}
use Rattle.store.specs.Operations.{copy_answer, copy_buffer}

pub record Copied (m : Meaning) (n len : ℕ) (after : List ℕ) : Type 0 where
  pub held : holds n m.pairs ≡ true
  pub long : len ≡ length (payload_of n m.pairs)
  pub front : take len after ≡ payload_of n m.pairs

pub copied : (m : Meaning) (n room len : ℕ) (buffer after : List ℕ) → Ok len ≡ copy_answer m n room → after ≡ copy_buffer true m n buffer → Copied m n len after
copied m n room len buffer after answer is =
    let held : holds n m.pairs ≡ true = grind (arith, nat_tests) in
    let long : len ≡ length (payload_of n m.pairs) = grind (arith, nat_tests) in
    record {
      held = held;
      long = long;
      front = ap (take len) is ∙ take_at (payload_of n m.pairs) _ len (sym long);
    }
