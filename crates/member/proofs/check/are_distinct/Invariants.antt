use Rattle.std.proofs.Common.{◌≡◌, length}
use Rattle.member.specs.Checks.{distinct_numbers}
use Rattle.member.proofs.check.are_distinct.Given as goal

abbrev pub decreases-loop-first : goal.decreases-loop-first
decreases-loop-first l = length l.rest

abbrev pub invariant-loop-first : goal.invariant-loop-first
invariant-loop-first l = distinct_numbers l.rest ≡ distinct_numbers l.numbers
