use Rattle.std.proofs.Common.{rules}
use Rattle.std.proofs.lemmas.List.{places}
use Rattle.memory.specs.Records.{length_of}
use Rattle.memory.proofs.layout.length_of.Goals as goal

pub returns : goal.returns
unfolding length_of
returns c = search (rules, places)
