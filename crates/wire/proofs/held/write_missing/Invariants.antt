use Rattle.std.proofs.Common.{◌≡◌, length, take}
use Rattle.std.proofs.lemmas.Iterator.{YieldsList}
use Rattle.std.specs.List.{enumerate_from}
use Rattle.wire.specs.Fields.{overwrite}
use Rattle.wire.specs.Flags.{missing_numbers}
use Rattle.wire.proofs.held.write_missing.Given as goal

abbrev pub invariant-loop-i : goal.invariant-loop-i
invariant-loop-i l = record {
  can : (goal.iterator-loop-i).can_next l.i-iterator;
  ends : (goal.iterator-loop-i).is_finite l.i-iterator;
  road : YieldsList (goal.iterator-loop-i).next_gives (λ p. (p.0, p.1)) l.initial.i-iterator (enumerate_from 0 (missing_numbers l.hack));
  so_far : l.numbers ≡ overwrite 0 (take (length l.yielded) (missing_numbers l.hack)) l.initial.numbers;
}
