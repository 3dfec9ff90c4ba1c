use Rattle.std.proofs.Common.{rules}
use Rattle.wire.specs.Fields.{short_at}
use Rattle.wire.proofs.fields.u16_at.Goals as goal

pub returns : goal.returns
unfolding short_at
returns c = search rules
