use Rattle.std.proofs.Common.{◌≡◌, ℕ, ◌-◌, ◌<◌, ◌≤◌, true}
use Rattle.store.specs.Pairs.{holds}
use Rattle.store.proofs.lowest.lowest_missing.Given as goal

abbrev pub invariant-loop-low : goal.invariant-loop-low
invariant-loop-low g l =
    let meaning = g.S.Store.meaning in
    (meaning l.store ≡ meaning l.initial.store)
    × (l.start ≤ l.low) × ((k : ℕ) → l.start ≤ k → k < l.low → holds k (meaning l.initial.store).pairs ≡ true)

abbrev pub decreases-loop-low : goal.decreases-loop-low
decreases-loop-low g l = 4294967296 - l.low
