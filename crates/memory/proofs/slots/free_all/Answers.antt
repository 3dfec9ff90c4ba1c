use Rattle.std.proofs.Common.{◌≡◌, ◌*◌, ◌/◌, [], length, drop, slice_index, sym, ap, subst, ◌∙◌, arith, below_more}
use Rattle.memory.specs.Slots.{slot}
use Rattle.memory.specs.Records.{length_of, encoded}
use Rattle.memory.proofs.RecordsLemmas.{length_encoded, paste_beside}
use Rattle.memory.proofs.SlotWalks.{written, none_held, drop_on}
use Rattle.memory.proofs.slots.free_all.Goals as goal

pub loop-k-preserved : goal.loop-k-preserved
loop-k-preserved c =
    let n = length c.args.bytes.now / 518 in
    let bs = c.loop-k.bytes in
    let new = c.write_record.new.bytes in
    let k = c.loop-k.k in
    let free = c.loop-k.invariant.0 in
    let same = c.loop-k.invariant.1 in
    let w = written bs new n k 0 [] c.loop-k-test.true (omega arith) (omega arith) (omega arith) c.write_record.ensures in (
      below_more (λ j. length_of (slot j new) ≡ 0) k
          (λ j l. let z = free j l in sym (w.others j (omega arith) (λ e. omega arith) (omega arith)).1 ∙ z)
          w.len,
      (
        λ j past. ap (λ xs. slice_index xs j) c.write_record.ensures
            ∙ paste_beside bs (k * 518) (encoded 0 []) 6 (omega arith) (omega (arith, length_encoded 0 [])) j (λ g. omega arith)
            ∙ same.0 j past,
        w.past ∙ drop_on k bs c.args.bytes.now same.1,
      ),
    )

pub returns : goal.returns
returns c =
    let n = length c.args.bytes.now / 518 in
    let free = c.loop-k.invariant.0 in
    let same = c.loop-k.invariant.1 in
    let all : c.loop-k.k ≡ n = omega arith in
    record {
      short = λ k l. omega (arith, free k (omega arith));
      empty = none_held n c.loop-k.bytes (λ k l. free k (omega arith));
      stay = same.0;
      rest = subst (λ m. drop (m * 518) c.loop-k.bytes ≡ drop (m * 518) c.args.bytes.now) all same.1;
    }
