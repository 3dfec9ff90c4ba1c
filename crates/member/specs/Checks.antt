-- What a node can be made with. Assumes nothing.
use Rattle.std.specs.Prelude.{ℕ, Bool, true, false, cond, ◌&&◌, List, [], ◌∷◌, length, Ok, Err, Result, ◌==◌, nat_le}
use Rattle.std.specs.List.{list_any}
use Rattle.answer.specs.declared.Refusal.{Refusal}
use Rattle.answer.specs.declared.Refusal.TheVariants.{OutOfRange}
use Rattle.member.specs.declared.types.Identity.{Identity}
use Rattle.member.specs.Members.{upper_number}

abbrev pub has_number : ℕ → List ℕ → Bool
has_number n xs = list_any (λ x. x == n) xs

-- no number is 0 or comes twice
abbrev pub distinct_numbers : List ℕ → Bool
distinct_numbers [] = true
distinct_numbers (x ∷ xs) = cond (x == 0) false (cond (has_number x xs) false (distinct_numbers xs))

-- B is 1 to 16, R is 1 to 9,999, the StreamID at least 32,768, there are at most B others, and no 0 and no repeat
abbrev pub good_making : Identity → ℕ → ℕ → List ℕ → Bool
good_making i b r others =
    (nat_le 1 b && nat_le b 16) && ((nat_le 1 r && nat_le r 9999) && (nat_le 32768 i.address.stream && (nat_le (length others) b && distinct_numbers (i.address.number ∷ upper_number i.upper ∷ others))))

abbrev pub check_answer : Identity → ℕ → ℕ → List ℕ → Result (Unit {0}) Refusal
check_answer i b r others = cond (good_making i b r others) (Ok tt) (Err OutOfRange)
