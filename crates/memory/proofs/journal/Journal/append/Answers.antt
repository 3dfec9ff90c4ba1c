use Rattle.std.proofs.lemmas.List.{with_items_is}
use Rattle.std.proofs.Common.{◌≡◌, ℕ, ◌+◌, ◌<◌, false, length, vec_items, ap, ◌∙◌, arith, rules}
use Rattle.std.specs.Vec.{with_items}
use Rattle.store.proofs.Keeping.{top_push}
use lib.Seq.{paste}
use Rattle.store.specs.Pairs.{pair, distinct, holds}
use Rattle.memory.specs.Records.{records, span, encoded}
use Rattle.memory.proofs.JournalStates.{fits, grown}
use Rattle.memory.proofs.journal.Journal.append.Goals as goal

pub write_record-requires : goal.write_record-requires
write_record-requires c =
    let f = fits c.args.self.now c.args.number c.args.payload.now c.requires.good c.requires.room in
    record { fits = omega (arith, f.0, ap length c.deref_mut.ensures.value); short = f.1 }

pub invariant_of-self : goal.invariant_of-self
invariant_of-self c =
    let s = c.args.self.now in
    let p = c.args.payload.now in
    let g = grown s c.args.number p c.write_record.new.bytes c.requires.good c.requires.free c.requires.room (c.write_record.ensures ∙ ap (λ d. paste d s.used (encoded c.args.number p) (6 + length p)) c.deref_mut.ensures.value) in
    let n = ap length g.items in
    let top : (k : ℕ) → c.max-self.result < k → holds k (records (s.count + 1) (with_items s.memory c.write_record.new.bytes).items) ≡ false = λ k over.
    ap (λ bs. holds k (records (s.count + 1) bs)) g.items ∙ (ap (holds k) g.after ∙ top_push k (pair c.args.number p) (records s.count (vec_items s.memory)) (s.top k (omega (arith, over, c.max-self.ensures))) (omega (arith, over, c.max-self.ensures))) in
    record {
      end = ap (span (s.count + 1)) g.items ∙ g.end;
      within = omega (arith, n, g.within);
      room = omega (arith, n, g.long, c.requires.room);
      distinct = ap (λ bs. distinct (records (s.count + 1) bs)) g.items ∙ g.distinct;
      top = top;
    }

pub returns : goal.returns
returns c = search (rules, with_items_is, grown)
