use Rattle.std.proofs.Common.{rules}
use Rattle.store.proofs.Keeping.{ordered}
use Rattle.memory.specs.Lengths.{length_records}
use Rattle.memory.proofs.journal.JournalStore.put.Goals as goal

pub returns-then-is_some : goal.returns-then-is_some
returns-then-is_some c = search (rules, ordered)

pub returns-then-self-len : goal.returns-then-self-len
returns-then-self-len c = search (rules, ordered, length_records)

pub returns : goal.returns
returns c = search (rules, ordered, length_records)
