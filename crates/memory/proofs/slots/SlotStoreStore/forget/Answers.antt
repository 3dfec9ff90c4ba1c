use Rattle.std.proofs.Common.{◌/◌, length, sym, ap, ◌∙◌}
use Rattle.std.specs.Vec.{with_items}
use Rattle.memory.specs.Slots.{slot_pairs}
use Rattle.memory.proofs.SlotStates.{freed, all_kept}
use Rattle.memory.proofs.slots.SlotStoreStore.forget.Goals as goal

pub invariant_of-self : goal.invariant_of-self
invariant_of-self c =
    let e = c.free_through-used.ensures in
    let k = (freed c.args.self.now c.args.number _ _ _ c.free_through-used.new.bytes c.deref_mut.ensures.value c.free_through-used.auto.bytes e.short e.after e.counted e.homes).keeps in
    record { short = k.0; distinct = k.1.0; counted = k.1.1.0; homes = k.1.1.1.0 }

pub returns : goal.returns
returns c =
    let s = c.args.self.now in
    let value = c.deref_mut.ensures.value in
    let e = c.free_through-used.ensures in
    let t = freed s c.args.number _ _ _ c.free_through-used.new.bytes value c.free_through-used.auto.bytes e.short e.after e.counted e.homes in
    let room = ap (λ k. k / 518) t.len in
    let pairs = t.after in
    record {
      after = cc;
      still = λ same. t.items ∙ (e.still (all_kept s _ (with_items s.memory c.free_through-used.new.bytes).items t.keeps.1.1.0 (ap (λ m. length m.pairs) same) ∙ ap (λ bs. length (slot_pairs bs)) (sym value)) ∙ value);
      size = t.len;
    }
