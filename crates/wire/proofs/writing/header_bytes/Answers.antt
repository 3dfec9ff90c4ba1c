use Rattle.std.proofs.Common.{[], ◌∷◌, ◌++◌, get_or, rules}
use Rattle.wire.specs.Fields.{short_bytes}
use Rattle.wire.specs.Encoding.{six_bytes}
use Rattle.wire.proofs.writing.header_bytes.Goals as goal

pub returns : goal.returns
unfolding short_bytes
returns c = record {
  typed = record { tree = c.bytes-tree.ensures.long; stream = search rules; writer = search rules; addressee = search rules };
  is = λ i.
      32 ∷ c.type_of.ensures i ∷ (six_bytes (c.bytes-tree.ensures.is i) 0 ++
      (get_or (c.to_be_bytes-stream.ensures i) 0 0 ∷ get_or (c.to_be_bytes-stream.ensures i) 1 0
      ∷ get_or (c.to_be_bytes-writer.ensures i) 0 0 ∷ get_or (c.to_be_bytes-writer.ensures i) 1 0
      ∷ get_or (c.to_be_bytes-addressee.ensures i) 0 0 ∷ get_or (c.to_be_bytes-addressee.ensures i) 1 0 ∷ 0 ∷ 0 ∷ []));
}
