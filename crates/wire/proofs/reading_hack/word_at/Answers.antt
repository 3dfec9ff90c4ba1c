use Rattle.std.proofs.Common.{◌≡◌, ℕ, ◌+◌, get_or, arith}
use Rattle.std.proofs.lemmas.List.{get_or_past}
use Rattle.wire.specs.Fields.{field_at}
use Rattle.wire.proofs.reading_hack.word_at.Goals as goal

pub returns-else-at-bytes : goal.returns-else-at-bytes
unfolding field_at
returns-else-at-bytes c =
    let b = c.args.bytes.now in
    let at = c.args.at in
    let none : (k : ℕ) → get_or b (at + k) 0 ≡ 0 = λ k. get_or_past b (at + k) 0 (omega arith) in
    let first : get_or b at 0 ≡ 0 = get_or_past b at 0 (omega arith) in
    omega (arith, first, none 1, none 2, none 3)
