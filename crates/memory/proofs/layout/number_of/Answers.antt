use Rattle.std.proofs.Common.{rules}
use Rattle.std.proofs.lemmas.List.{places}
use Rattle.memory.specs.Records.{number_of}
use Rattle.memory.proofs.layout.number_of.Goals as goal

pub returns : goal.returns
unfolding number_of
returns c = search (rules, places)
