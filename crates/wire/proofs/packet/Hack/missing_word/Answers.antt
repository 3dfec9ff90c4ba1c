use Rattle.std.proofs.Common.{◌-◌, ap, ◌∙◌}
use lib.Bits.{bit_and}
use Rattle.wire.proofs.MissingWords.{missing_word}
use Rattle.wire.proofs.packet.Hack.missing_word.Goals as goal

pub returns : goal.returns
returns c =
    ap (bit_and (4294967295 - c.word.result)) c.ones_below.ensures ∙ missing_word c.args.self.now c.args.block c.word.result c.word.ensures
