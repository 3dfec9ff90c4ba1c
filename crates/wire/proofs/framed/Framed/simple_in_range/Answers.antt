use Rattle.std.proofs.Common.{◌≡◌, get_or, arith, rules}
use Rattle.std.proofs.lemmas.Bool.Decides.{nat_tests}
use Rattle.wire.proofs.framed.Framed.simple_in_range.Goals as goal

pub returns-in_default : goal.returns-in_default
returns-in_default c = let t : get_or c.args.self.bytes.now 1 0 ≡ 13 = grind (arith, nat_tests) in search rules
