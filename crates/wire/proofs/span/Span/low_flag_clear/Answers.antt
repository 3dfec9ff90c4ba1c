use Rattle.std.proofs.Common.{◌%◌, not, ◌||◌, eqb, sym, ap, ◌∙◌, arith}
use Rattle.std.proofs.lemmas.Bool.{le-ltb}
use Rattle.wire.specs.Flags.{flag_at}
use Rattle.wire.proofs.Words.{flag_clear}
use Rattle.wire.proofs.span.Span.low_flag_clear.Goals as goal

pub returns-else-self : goal.returns-else-self
returns-else-self c =
    let p = c.args.self in
    let j = p.lsn % 32 in
    ap not c.flag_is_set.ensures ∙ flag_clear c.args.word j (omega arith)
    ∙ sym (ap (λ b. b || eqb (flag_at c.args.word j) 0) (le-ltb p.hsn p.lsn c.if-self.false))
