use Rattle.std.proofs.Common.{◌-◌, ◌/◌, ◌%◌, ◌^◌, ◌&&◌, eqb, sym, ap, ◌∙◌}
use lib.Bits.{and_mask}
use Rattle.std.proofs.lemmas.Bool.{lt-ltb}
use Rattle.wire.specs.Flags.{flag_at}
use Rattle.wire.proofs.flags.flag_is_set.Goals as goal

pub returns-then-position-lt32 : goal.returns-then-position-lt32
unfolding flag_at
returns-then-position-lt32 c =
    let j = c.args.position in
    ap (λ n. eqb n 1) (and_mask _ 1) ∙ sym (ap (λ b. b && eqb (c.args.word / 2 ^ (31 - j) % 2) 1) (lt-ltb j 32 c.if-position-lt32.true))
