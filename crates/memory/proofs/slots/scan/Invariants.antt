use Rattle.std.proofs.Common.{◌≡◌, false, length}
use Rattle.store.specs.Pairs.{holds}
use Rattle.memory.specs.Slots.{slots}
use Rattle.memory.proofs.SlotWalks.{Walking}
use Rattle.memory.proofs.slots.scan.Given as goal

abbrev pub invariant-loop-slot : goal.invariant-loop-slot
invariant-loop-slot l = Walking l.bytes l.slot-iterator.rest.now l.slot-iterator.size (length l.yielded) × (holds l.number (slots (length l.yielded) l.bytes) ≡ false)
