-- How many pairs records and slots hold, for the proofs that what a store means is sound. Assumes nothing.
use Rattle.std.specs.Prelude.{◌≡◌, ℕ, zero, suc, ◌≤◌, List, length, drop, refl}
use Rattle.std.proofs.Common.{ap, arith}
use Rattle.std.proofs.lemmas.List.{length-append}
use Rattle.std.proofs.lemmas.Bool.Decides.{nat_tests}
use Rattle.memory.specs.Records.{size_of, records}
use Rattle.memory.specs.Slots.{slot, one, slots}

pub length_records : (n : ℕ) (xs : List ℕ) → length (records n xs) ≡ n
length_records zero xs = refl
length_records (suc n) xs = ap suc (length_records n (drop (size_of xs) xs))

pub length_one : (xs : List ℕ) → length (one xs) ≤ 1
unfolding one
length_one xs = grind (arith, nat_tests)

pub length_slots : (n : ℕ) (xs : List ℕ) → length (slots n xs) ≤ n
length_slots zero xs = omega arith
length_slots (suc n) xs = omega (arith, length-append (slots n xs) (one (slot n xs)), length_slots n xs, length_one (slot n xs))
