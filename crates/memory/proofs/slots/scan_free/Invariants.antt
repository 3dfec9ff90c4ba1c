use Rattle.std.proofs.Common.{◌≡◌, length}
use Rattle.memory.specs.Slots.{slots}
use Rattle.memory.proofs.SlotWalks.{Walking}
use Rattle.memory.proofs.slots.scan_free.Given as goal

abbrev pub invariant-loop-i : goal.invariant-loop-i
invariant-loop-i l = Walking l.bytes l.i-iterator.iter.rest.now l.i-iterator.iter.size l.i-iterator.count × (length (slots l.i-iterator.count l.bytes) ≡ l.i-iterator.count)
