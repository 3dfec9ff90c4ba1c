use Rattle.std.proofs.Common.{◌&&◌, eqb, sym, ap, ◌∙◌}
use Rattle.address.proofs.Bytes.{decides_same}
use Rattle.address.proofs.Address.is_stream_of.Goals as goal

pub returns-then-is : goal.returns-then-is
returns-then-is c =
    let p = c.args.packet.now in
    let i = c.args.self in
    ap (λ b. b && eqb p.stream i.stream) (sym c.if-is.true ∙ decides_same c.is.result p.tree.0 i.tree.0 c.is.ensures.decides)

pub returns-else-is : goal.returns-else-is
returns-else-is c =
    let p = c.args.packet.now in
    let i = c.args.self in
    c.if-is.false ∙ ap (λ b. b && eqb p.stream i.stream) (sym c.if-is.false ∙ decides_same c.is.result p.tree.0 i.tree.0 c.is.ensures.decides)
