use Rattle.std.proofs.Common.{◌/◌, sym, ap, ◌∙◌}
use Rattle.memory.proofs.SlotStates.{emptied}
use Rattle.memory.proofs.slots.SlotStoreMadeOver.new.Goals as goal

pub invariant_of-result : goal.invariant_of-result
invariant_of-result c =
    let e = c.free_all.ensures in
    let k = (emptied c.args.memory _ c.free_all.new.bytes c.deref_mut.ensures.value c.free_all.auto.bytes e.short e.empty).keeps in
    record { short = k.0; distinct = k.1.0; counted = k.1.1.0; homes = k.1.1.1.0 }

pub returns : goal.returns
returns c =
    let e = c.free_all.ensures in
    let t = emptied c.args.memory _ c.free_all.new.bytes c.deref_mut.ensures.value c.free_all.auto.bytes e.short e.empty in
    let size = t.len ∙ sym c.args.memory.ok.0 in
    let room = ap (λ k. k / 518) size in
    let pairs = t.after in
    record { empty = cc; size = size }
