use Rattle.memory.specs.Slots.{slot_count}
use Rattle.memory.proofs.SlotWalks.{Freeing}
use Rattle.memory.proofs.slots.free_through.Given as goal

abbrev pub invariant-loop-i : goal.invariant-loop-i
invariant-loop-i l = Freeing l.initial.bytes l.bytes (slot_count l.initial.bytes) l.number l.i l.used l.homed
