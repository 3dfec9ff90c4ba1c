use Rattle.std.proofs.Common.{arith}
use Rattle.wire.proofs.Overwrites.{overwrite_part}
use Rattle.wire.proofs.fields.put.Goals as goal

pub returns : goal.returns
returns g c = overwrite_part _ _ _ _ _ c.copy_from_slice.ensures.after (omega arith)
