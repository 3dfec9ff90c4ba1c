use Rattle.std.proofs.Common.{◌&&◌, eqb, vec_items, ap, arith}
use Rattle.memory.specs.Slots.{slot_count}
use Rattle.memory.specs.Lengths.{length_slots}
use Rattle.memory.proofs.SlotStates.{placed}
use Rattle.memory.proofs.slots.SlotStore.place.Goals as goal

pub overflow_add-self : goal.overflow_add-self
overflow_add-self c =
    let s = c.args.self.now in
    let bs = vec_items s.memory in omega (arith, s.counted, length_slots (slot_count bs) bs)

pub invariant_of-self : goal.invariant_of-self
invariant_of-self c =
    let k = (placed c.args.self.now c.args.i c.args.number _ _ c.args.payload.now _ c.write_record.new.bytes
    c.requires.good c.requires.free c.requires.within c.requires.empty c.len-count.ensures c.deref_mut.ensures.value c.write_record.ensures (ap (λ k. c.args.self.now.homed && eqb k c.args.i) c.home.ensures)).keeps in
    record { short = k.0; distinct = k.1.0; counted = k.1.1.0; homes = k.1.1.1.0 }

pub returns : goal.returns
returns c =
    let t = placed c.args.self.now c.args.i c.args.number _ _ c.args.payload.now _ c.write_record.new.bytes
    c.requires.good c.requires.free c.requires.within c.requires.empty c.len-count.ensures c.deref_mut.ensures.value c.write_record.ensures (ap (λ k. c.args.self.now.homed && eqb k c.args.i) c.home.ensures) in
    record { after = t.after; len = t.len }
