use Rattle.std.proofs.Common.{◌++◌, refl, arith}
use Rattle.wire.specs.Fields.{short_bytes, field_bytes}
use Rattle.wire.proofs.Overwrites.{overwrite_next}
use Rattle.wire.proofs.writing.write_join_confirm.Goals as goal

pub returns : goal.returns
unfolding short_bytes field_bytes
returns c =
    let t = field_bytes c.args.term in
    let s = field_bytes c.args.start in
    let out = c.args.out.now in
    let two = overwrite_next 16 20 t s out (rw c.to_be_bytes.ensures at c.put.ensures) (rw c.to_be_bytes-2.ensures at c.put-2.ensures) refl (omega arith) in
    overwrite_next 16 24 (t ++ s) (short_bytes c.args.slot) out two (rw c.to_be_bytes-3.ensures at c.put-3.ensures) refl (omega arith)
