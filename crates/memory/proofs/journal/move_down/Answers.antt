use Rattle.std.proofs.Common.{◌≡◌, drop, sym, ap, ◌∙◌, arith}
use lib.Seq.{paste}
use Rattle.memory.proofs.RecordsLemmas.{paste_same}
use Rattle.memory.proofs.journal.move_down.Goals as goal

pub returns-else-to-from : goal.returns-else-to-from
returns-else-to-from c =
    let bs = c.args.bytes.now in
    let same : c.args.from ≡ c.args.to = omega (arith, c.requires.down, c.if-to-from.false) in
    paste_same bs c.args.to c.args.size ∙ ap (λ f. paste bs c.args.to (drop f bs) c.args.size) (sym same)
