use Rattle.std.proofs.Common.{◌≡◌, ◌+◌, ◌-◌, get_or, take, drop, ap, ◌∙◌, arith, length-drop}
use Rattle.std.proofs.lemmas.List.{get_or-take, get_or-drop, length-take-le}
use Rattle.std.proofs.lemmas.List.FromFn.{fill_by_all}
use Rattle.wire.proofs.fields.array_at.Goals as goal

pub returns : goal.returns
returns g c =
    let b = c.args.bytes.now in
    let n = g.row.N in
    let e : c.args.at + n - c.args.at ≡ n = omega arith in
    let same : c.copy_from_slice.new.self ≡ take n (drop c.args.at b) = c.copy_from_slice.ensures.after ∙ ap (λ k. take k (drop c.args.at b)) e in
    same ∙ fill_by_all (λ i. get_or b (c.args.at + i) 0) (take n (drop c.args.at b)) n 0 (length-take-le n _ (omega (arith, length-drop c.args.at b)))
    (λ k h. get_or-take n (drop c.args.at b) k 0 h ∙ get_or-drop c.args.at b k 0)
