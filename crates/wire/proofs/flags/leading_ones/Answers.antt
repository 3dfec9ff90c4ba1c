use Rattle.std.proofs.Common.{◌-◌, ◌^◌, sym, ap}
use Rattle.wire.specs.Flags.{leading_ones}
use Rattle.wire.proofs.Words.{leading_ones_shift}
use Rattle.wire.proofs.flags.leading_ones.Goals as goal

pub returns-then-k-eq0 : goal.returns-then-k-eq0
unfolding leading_ones
returns-then-k-eq0 c = ap (λ k. 2 ^ 32 - 2 ^ (32 - k)) (sym c.if-k-eq0.true)

pub returns-else-k-eq0 : goal.returns-else-k-eq0
returns-else-k-eq0 c = leading_ones_shift c.args.k c.requires
