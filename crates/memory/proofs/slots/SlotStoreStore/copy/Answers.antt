use Rattle.std.proofs.Common.{rules}
use Rattle.store.proofs.Keeping.{ordered}
use Rattle.memory.proofs.slots.SlotStoreStore.copy.Goals as goal

pub returns-in_err-payload : goal.returns-in_err-payload
returns-in_err-payload c = search (rules, ordered)

pub returns : goal.returns
returns c = search (rules, ordered)
