-- The journal after a record is written past its last, and after a walk that keeps some. Assumes nothing.
use Rattle.std.proofs.Common.{◌≡◌, ℕ, ◌+◌, ◌/◌, ◌<◌, ◌≤◌, true, false, List, [], ◌∷◌, ◌++◌, length, vec_items, sym, ap, ◌∙◌, arith}
use lib.Seq.{paste}
use Rattle.std.specs.Vec.{with_items}
use Rattle.std.proofs.lemmas.List.{with_items_is}
use Rattle.std.proofs.lemmas.Bool.Decides.{nat_tests}
use Rattle.memory.specs.declared.journal.Journal.{Journal}
use Rattle.store.specs.Pairs.{pair, holds, above, in_order, good, distinct}
use Rattle.memory.specs.Records.{records, span, encoded}
use Rattle.store.proofs.Keeping.{distinct_push, distinct_above, above_in_order, length_in_order}
use Rattle.memory.specs.Lengths.{length_records}
use Rattle.memory.proofs.JournalWalks.{room_for, appended}

-- what s holds once `new` is in its memory
pub record Grown (s : Journal) (n : ℕ) (p new : List ℕ) : Type 0 where
  pub items : (with_items s.memory new).items ≡ new
  pub after : records (s.count + 1) new ≡ records s.count (vec_items s.memory) ++ (pair n p ∷ [])
  pub end : span (s.count + 1) new ≡ s.used + (6 + length p)
  pub long : length new ≡ length (vec_items s.memory)
  pub within : s.used + (6 + length p) ≤ length new
  pub distinct : distinct (records (s.count + 1) new) ≡ true

pub fits : (s : Journal) (n : ℕ) (p : List ℕ) → good (pair n p) ≡ true → s.count < length (vec_items s.memory) / 518 → (s.used + (6 + length p) ≤ length (vec_items s.memory)) × (length p < 65536)
fits s n p g r =
    let short : length p < 513 = grind (arith, nat_tests) in
    let room = room_for s.count s.used (vec_items s.memory) s.end s.within r s.distinct in
    (omega arith, omega arith)

pub grown : (s : Journal) (n : ℕ) (p new : List ℕ) → good (pair n p) ≡ true → holds n (records s.count (vec_items s.memory)) ≡ false → s.count < length (vec_items s.memory) / 518 → new ≡ paste (vec_items s.memory) s.used (encoded n p) (6 + length p) → Grown s n p new
grown s n p new g free r is =
    let f = fits s n p g r in
    let ln : n < 4294967296 = grind (arith, nat_tests) in
    let a = appended s.count s.used n (vec_items s.memory) p new s.end f.0 ln f.1 is in
    record {
      items = with_items_is s.memory new (a.2 ∙ sym s.memory.ok.0);
      after = a.0;
      end = a.1;
      long = a.2;
      within = omega (arith, f.0, a.2);
      distinct = ap distinct a.0 ∙ distinct_push (pair n p) (records s.count (vec_items s.memory)) g free s.distinct;
    }

-- what s holds once `new`, with `count` records, is in its memory
pub record Shrunk (s : Journal) (n count : ℕ) (new : List ℕ) : Type 0 where
  pub items : (with_items s.memory new).items ≡ new
  pub long : length (with_items s.memory new).items ≡ length (vec_items s.memory)
  pub distinct : distinct (records count new) ≡ true
  pub after : in_order (records count new) ≡ above n (in_order (records s.count (vec_items s.memory)))

pub shrunk : (s : Journal) (n count : ℕ) (old new : List ℕ) → old ≡ vec_items s.memory → length new ≡ length old → records count new ≡ above n (records s.count old) → Shrunk s n count new
shrunk s n count old new is long e =
    let l : length new ≡ length (vec_items s.memory) = long ∙ ap length is in
    let r = with_items_is s.memory new (l ∙ sym s.memory.ok.0) in
    let k : records count new ≡ above n (records s.count (vec_items s.memory)) = e ∙ ap (λ bs. above n (records s.count bs)) is in
    record {
      items = r;
      long = ap length r ∙ l;
      distinct = ap distinct k ∙ distinct_above n (records s.count (vec_items s.memory)) s.distinct;
      after = ap in_order k ∙ sym (above_in_order n (records s.count (vec_items s.memory)));
    }

-- as many pairs as before are all of them
pub all_stay : (s : Journal) (count : ℕ) (new : List ℕ) → length (in_order (records count new)) ≡ length (in_order (records s.count (vec_items s.memory))) → count ≡ s.count
all_stay s count new e =
    let old = vec_items s.memory in
    omega (arith, length_in_order (records count new), length_in_order (records s.count old), length_records count new, length_records s.count old)
