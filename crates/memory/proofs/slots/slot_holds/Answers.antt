use Rattle.std.proofs.Common.{eqb, sym, ap, ◌∙◌, arith}
use Rattle.std.proofs.lemmas.Bool.{le-ltb}
use Rattle.memory.proofs.SlotWalks.{one_none, one_holds}
use Rattle.memory.proofs.slots.slot_holds.Goals as goal

pub returns-then-length_of-gt0 : goal.returns-then-length_of-gt0
returns-then-length_of-gt0 c =
    ap (λ n. eqb n c.args.number) c.number_of.ensures ∙ sym (one_holds c.args.number c.args.slot.now (omega (arith, c.length_of.ensures.value, c.if-length_of-gt0.true)))

pub returns-else-length_of-gt0 : goal.returns-else-length_of-gt0
returns-else-length_of-gt0 c =
    le-ltb 0 c.length_of.result c.if-length_of-gt0.false ∙ sym (one_none c.args.number c.args.slot.now (omega (arith, c.length_of.ensures.value, c.if-length_of-gt0.false)))
