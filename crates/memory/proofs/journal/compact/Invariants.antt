use Rattle.std.proofs.Common.{◌-◌}
use Rattle.memory.proofs.JournalWalks.{Packing}
use Rattle.memory.proofs.journal.compact.Given as goal

abbrev pub invariant-loop : goal.invariant-loop
invariant-loop l = Packing l.initial.bytes l.bytes l.count l.number l.stays l.to l.from (l.count - l.counter)
