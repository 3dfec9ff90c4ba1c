use Rattle.std.proofs.Common.{◌%◌, ◌&&◌, eqb, ap, ◌∙◌, arith}
use Rattle.std.proofs.lemmas.Bool.{lt-ltb}
use Rattle.wire.specs.Flags.{flag_at, flag_of}
use Rattle.wire.proofs.held.is_flagged.Goals as goal

pub returns : goal.returns
unfolding flag_of
returns c =
    let j = c.args.number % 32 in
    c.flag_is_set.ensures ∙ ap (λ b. b && eqb (flag_at c.word_at.result j) 1) (lt-ltb j 32 (omega arith)) ∙ ap (λ w. eqb (flag_at w j) 1) c.word_at.ensures
