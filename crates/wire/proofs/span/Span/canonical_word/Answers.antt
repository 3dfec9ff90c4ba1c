use Rattle.std.proofs.Common.{rules}
use Rattle.wire.specs.Flags.{canonical_word, trimmed, positions_in}
use Rattle.wire.proofs.span.Span.canonical_word.Goals as goal

pub returns : goal.returns
unfolding canonical_word trimmed positions_in
returns c = search rules
