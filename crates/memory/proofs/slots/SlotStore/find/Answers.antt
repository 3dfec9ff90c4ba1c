use Rattle.std.proofs.Common.{◌≡◌, ◌*◌, ◌/◌, ◌%◌, ◌<◌, true, false, vec_items, sym, ap, subst, ◌∙◌, mod-lt, arith}
use Rattle.store.specs.Pairs.{holds}
use Rattle.memory.specs.Records.{body_of}
use Rattle.memory.specs.Slots.{slot_count, slot, one}
use Rattle.memory.proofs.RecordsLemmas.{rest_is, found_body}
use Rattle.memory.proofs.SlotWalks.{seek_here, homed_miss}
use Rattle.memory.proofs.slots.SlotStore.find.Goals as goal

pub returns-then-slot_holds : goal.returns-then-slot_holds
returns-then-slot_holds c =
    let s = c.args.self.now in
    let bs = vec_items s.memory in
    let n = c.args.number in
    let h = c.home.result in
    let e = rest_is (h * 518) c.deref.result.now ∙ ap (slot h) c.deref.ensures.value in
    let count : c.len-count.result / 518 ≡ slot_count bs = ap (λ m. m / 518) (c.len-count.ensures ∙ s.memory.ok.0) in
    let some : 0 < c.len-count.result / 518 = omega (arith, c.if-count-eq0.false) in
    let low : h < slot_count bs = omega (arith, c.home.ensures, mod-lt n some, count) in
    let here : holds n (one (slot h bs)) ≡ true = ap (λ xs. holds n (one xs)) (sym e) ∙ sym c.slot_holds.ensures ∙ c.if-slot_holds.true in
    let f = seek_here (slot_count bs) n h bs low (omega arith) s.short s.distinct here in
    record { test = sym f.held; payload = c.payload_of.ensures ∙ ap body_of e ∙ found_body (h * 518) bs ∙ f.payload }

pub returns-then-self : goal.returns-then-self
returns-then-self c =
    let s = c.args.self.now in
    let bs = vec_items s.memory in
    let n = c.args.number in
    let h = c.home.result in
    let e = rest_is (h * 518) c.deref.result.now ∙ ap (slot h) c.deref.ensures.value in
    let at_home : h ≡ n % slot_count bs = c.home.ensures ∙ ap (λ m. n % (m / 518)) (c.len-count.ensures ∙ s.memory.ok.0) in
    let miss : holds n (one (slot h bs)) ≡ false = ap (λ xs. holds n (one xs)) (sym e) ∙ sym c.slot_holds.ensures ∙ c.if-slot_holds.false in
    record { test = sym (homed_miss (slot_count bs) n bs (s.homes c.if-self.true) (subst (λ k. holds n (one (slot k bs)) ≡ false) at_home miss) (slot_count bs) (omega arith)); payload = tt }
