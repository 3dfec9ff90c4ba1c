use Rattle.std.proofs.Common.{◌-◌}
use Rattle.memory.proofs.JournalWalks.{Seeking}
use Rattle.memory.proofs.journal.scan.Given as goal

abbrev pub invariant-loop : goal.invariant-loop
invariant-loop l = Seeking l.bytes l.count l.number l.rest (l.count - l.counter)
