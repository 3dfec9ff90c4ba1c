use Rattle.std.proofs.Common.{ap, ◌∙◌}
use lib.Bits.{bit_and, bit_or}
use Rattle.wire.proofs.HeldWords.{all_held, held_word}
use Rattle.wire.proofs.packet.Hack.word.Goals as goal

pub returns-then-block-first : goal.returns-then-block-first
returns-then-block-first c = all_held c.args.self.now c.args.block c.if-block-first.true

pub returns : goal.returns
returns c =
    let w = c.word_at-word.result in
    ap (λ x. bit_or (bit_and w x) c.ones_below-2.result) c.ones_below.ensures
    ∙ ap (bit_or _) c.ones_below-2.ensures
    ∙ held_word c.args.self.now c.args.block w c.if-block-first.false c.word_at-word.ensures
