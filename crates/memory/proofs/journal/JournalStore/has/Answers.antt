use Rattle.std.proofs.Common.{rules}
use Rattle.store.proofs.Keeping.{ordered}
use Rattle.memory.proofs.journal.JournalStore.has.Goals as goal

pub returns : goal.returns
returns c = search (rules, ordered)
