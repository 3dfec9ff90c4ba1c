use Rattle.std.proofs.Common.{rules}
use Rattle.store.proofs.Keeping.{ordered}
use Rattle.memory.proofs.slots.SlotStoreStore.has.Goals as goal

pub returns : goal.returns
returns c = search (rules, ordered)
