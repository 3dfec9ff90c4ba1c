use Rattle.std.proofs.Common.{rules}
use Rattle.wire.specs.Flags.{word_count}
use Rattle.wire.proofs.span.Span.word_count.Goals as goal

pub returns-then-self : goal.returns-then-self
unfolding word_count
returns-then-self c = search rules

pub returns-else-self : goal.returns-else-self
unfolding word_count
returns-else-self c = search rules
