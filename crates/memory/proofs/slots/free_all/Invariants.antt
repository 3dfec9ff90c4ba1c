use Rattle.std.proofs.Common.{◌≡◌, ℕ, ◌*◌, ◌%◌, ◌<◌, ◌≤◌, drop, slice_index}
use Rattle.memory.specs.Records.{length_of}
use Rattle.memory.specs.Slots.{slot}
use Rattle.memory.proofs.slots.free_all.Given as goal

abbrev pub invariant-loop-k : goal.invariant-loop-k
invariant-loop-k l =
    ((j : ℕ) → j < l.k → length_of (slot j l.bytes) ≡ 0)
    × (((j : ℕ) → 6 ≤ j % 518 → slice_index l.bytes j ≡ slice_index l.initial.bytes j) × (drop (l.k * 518) l.bytes ≡ drop (l.k * 518) l.initial.bytes))
