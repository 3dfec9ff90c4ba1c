use Rattle.std.proofs.Common.{◌≡◌, ℕ, ◌/◌, ◌<◌, false, length, vec_items, ap, ◌∙◌, arith}
use Rattle.std.specs.Vec.{with_items}
use Rattle.store.proofs.Keeping.{free_above}
use Rattle.store.specs.Pairs.{distinct, holds, above, in_order}
use Rattle.memory.specs.Records.{records, span}
use Rattle.memory.proofs.JournalStates.{shrunk, all_stay}
use Rattle.memory.proofs.journal.JournalStore.forget.Goals as goal

pub invariant_of-self : goal.invariant_of-self
invariant_of-self c =
    let s = c.args.self.now in
    let k = c.compact-count.result.0 in
    let e = c.compact-count.ensures in
    let h = shrunk s c.args.number k _ c.compact-count.new.bytes c.deref_mut.ensures.value c.compact-count.auto.bytes e.stay in
    let top : (n : ℕ) → s.highest < n → holds n (records k (with_items s.memory c.compact-count.new.bytes).items) ≡ false = λ n over.
    ap (λ bs. holds n (records k bs)) h.items ∙ (ap (holds n) (e.stay ∙ ap (λ bs. above c.args.number (records s.count bs)) c.deref_mut.ensures.value) ∙ free_above n c.args.number (records s.count (vec_items s.memory)) (s.top n over)) in
    record {
      end = ap (span k) h.items ∙ e.end;
      within = omega (arith, h.long, e.within, ap length c.deref_mut.ensures.value);
      room = omega (arith, h.long, e.fewer, s.room);
      distinct = ap (λ bs. distinct (records k bs)) h.items ∙ h.distinct;
      top = top;
    }

pub returns : goal.returns
returns c =
    let s = c.args.self.now in
    let k = c.compact-count.result.0 in
    let e = c.compact-count.ensures in
    let h = shrunk s c.args.number k _ c.compact-count.new.bytes c.deref_mut.ensures.value c.compact-count.auto.bytes e.stay in
    let room = ap (λ n. n / 518) h.long in
    let pairs = ap (λ bs. in_order (records k bs)) h.items ∙ h.after in
    record {
      after = cc;
      still = λ same. h.items ∙ (e.still (all_stay s k _ (ap (λ m. length m.pairs) same)) ∙ c.deref_mut.ensures.value);
      size = h.long;
    }
