use Rattle.std.proofs.Common.{refl, arith}
use Rattle.wire.specs.Fields.{short_bytes, field_bytes}
use Rattle.wire.proofs.Overwrites.{overwrite_next}
use Rattle.wire.proofs.writing.write_heartbeat_response.Goals as goal

pub returns : goal.returns
unfolding short_bytes field_bytes
returns c =
    overwrite_next 16 20 (field_bytes c.args.term) (field_bytes c.args.clock) c.args.out.now (rw c.to_be_bytes.ensures at c.put.ensures) (rw c.to_be_bytes-2.ensures at c.put-2.ensures) refl (omega arith)
