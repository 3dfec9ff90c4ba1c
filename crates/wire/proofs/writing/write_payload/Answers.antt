use Rattle.std.proofs.Common.{◌++◌, length, refl, arith}
use Rattle.wire.specs.Fields.{short_bytes, field_bytes}
use Rattle.wire.proofs.Overwrites.{overwrite_part, overwrite_next}
use Rattle.wire.proofs.writing.write_payload.Goals as goal

pub returns : goal.returns
unfolding short_bytes field_bytes
returns c =
    let n = c.args.number in
    let p = c.args.payload.now in
    let out = c.args.out.now in
    let two = overwrite_next 16 20 (field_bytes n) (short_bytes (length p)) out (rw c.to_be_bytes.ensures at c.put.ensures) (rw c.to_be_bytes-2.ensures at c.put-2.ensures) refl (omega arith) in
    overwrite_next 16 22 (field_bytes n ++ short_bytes (length p)) p out two (overwrite_part 22 _ _ _ p c.copy_from_slice.ensures.after (omega arith)) refl (omega arith)
