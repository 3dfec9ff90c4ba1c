use Rattle.std.proofs.Common.{refl, ◌∙◌, arith}
use Rattle.memory.specs.Records.{header}
use Rattle.memory.proofs.RecordsLemmas.{three_writes}
use Rattle.memory.proofs.layout.write_record.Goals as goal

pub returns : goal.returns
unfolding header
returns c =
    three_writes c.args.bytes.now c.args.at _ _ _ _ _ c.args.payload.now
    (c.copy_from_slice.ensures.after ∙ c.to_be_bytes.ensures) (c.copy_from_slice-2.ensures.after ∙ c.to_be_bytes-2.ensures) c.copy_from_slice-3.ensures.after
    refl refl (omega arith)
