use Rattle.std.proofs.Common.{rules}
use Rattle.store.proofs.Keeping.{ordered}
use Rattle.memory.proofs.slots.SlotStoreStore.put.Goals as goal

pub returns-then-is_some : goal.returns-then-is_some
returns-then-is_some c = search (rules, ordered)

pub returns-in_err-i : goal.returns-in_err-i
returns-in_err-i c = search (rules, ordered)

pub returns : goal.returns
returns c = search (rules, ordered)
