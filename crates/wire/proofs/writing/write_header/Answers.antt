use Rattle.std.proofs.Common.{◌∙◌, arith}
use Rattle.wire.specs.Fields.{short_bytes}
use Rattle.wire.proofs.Overwrites.{overwrite_part}
use Rattle.wire.proofs.writing.write_header.Goals as goal

pub returns : goal.returns
unfolding short_bytes
returns c = record { typed = c.header_bytes.ensures.typed; after = overwrite_part 0 16 c.args.out.now _ _ (c.copy_from_slice.ensures.after ∙ c.header_bytes.ensures.is) (omega arith) }
