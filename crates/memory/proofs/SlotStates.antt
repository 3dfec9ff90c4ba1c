-- A slot store once other bytes are in its memory. Assumes nothing.
use Rattle.std.proofs.Common.{◌≡◌, ℕ, ◌+◌, ◌*◌, ◌/◌, ◌%◌, ◌<◌, Bool, true, false, ◌&&◌, eqb, List, [], length, vec_items, Vec, sym, ap, ◌∙◌, subst, arith}
use lib.Seq.{paste}
use Rattle.std.specs.Vec.{with_items}
use Rattle.std.proofs.lemmas.List.{with_items_is}
use Rattle.store.specs.Pairs.{Pair, pair, holds, add, above, in_order, good}
use Rattle.store.proofs.Keeping.{length_in_order}
use Rattle.memory.specs.declared.slots.SlotStore.{SlotStore}
use Rattle.memory.specs.Records.{length_of, encoded}
use Rattle.memory.specs.Slots.{slot_count, slot, slots, slot_pairs, Short, Homed}
use Rattle.memory.proofs.SlotWalks.{Kept, Turned, turned_put, turned_forget, turned_empty}

-- v once `new` is in it
pub record Settled {Z : Type 0} (v : Vec ℕ Z) (new : List ℕ) (used : ℕ) (homed : Bool) (ps : List Pair) : Type 0 where
  pub items : (with_items v new).items ≡ new
  pub keeps : Kept used homed (with_items v new).items
  pub len : length (with_items v new).items ≡ length (vec_items v)
  pub after : in_order (slot_pairs (with_items v new).items) ≡ ps

pub settled : {Z : Type 0} (v : Vec ℕ Z) (new : List ℕ) (used : ℕ) (homed : Bool) (ps : List Pair) → Turned (vec_items v) new used homed ps → Settled v new used homed ps
settled v new used homed ps t =
    let e = with_items_is v new (t.long ∙ sym v.ok.0) in
    record {
      items = e;
      keeps = subst (Kept used homed) (sym e) t.keeps;
      len = ap length e ∙ t.long;
      after = ap (λ bs. in_order (slot_pairs bs)) e ∙ t.after;
    }

-- a record written to the free slot i, over `len` bytes of memory
pub placed : (s : SlotStore) (i n len : ℕ) (flag : Bool) (p old new : List ℕ) → good (pair n p) ≡ true → holds n (slot_pairs (vec_items s.memory)) ≡ false → i < slot_count (vec_items s.memory) → length_of (slot i (vec_items s.memory)) ≡ 0 → len ≡ s.memory.len → old ≡ vec_items s.memory → new ≡ paste old (i * 518) (encoded n p) (6 + length p) → flag ≡ (s.homed && eqb (n % (len / 518)) i) → Settled s.memory new (s.used + 1) flag (add (pair n p) (in_order (slot_pairs (vec_items s.memory))))
placed s i n len flag p old new g free l e len_is old-is is flag_is =
    let bs = vec_items s.memory in
    let keeps : Kept s.used s.homed bs = (s.short, (s.distinct, (s.counted, (s.homes, tt)))) in
    let count : len / 518 ≡ slot_count bs = ap (λ m. m / 518) (len_is ∙ s.memory.ok.0) in
    settled s.memory new (s.used + 1) flag _
    (turned_put bs new i n s.used s.homed flag p keeps g free l e
    (is ∙ ap (λ xs. paste xs (i * 518) (encoded n p) (6 + length p)) old-is)
    (flag_is ∙ ap (λ k. s.homed && eqb (n % k) i) count))

-- the slots through n freed
pub freed : (s : SlotStore) (n used : ℕ) (homed : Bool) (old new : List ℕ) → old ≡ vec_items s.memory → length new ≡ length old → Short (slot_count old) new → slots (slot_count old) new ≡ above n (slot_pairs old) → used ≡ length (slots (slot_count old) new) → (homed ≡ true → Homed (slot_count old) (slot_count old) new) → Settled s.memory new used homed (above n (in_order (slot_pairs (vec_items s.memory))))
freed s n used homed old new is =
    subst (λ bs. length new ≡ length bs → Short (slot_count bs) new → slots (slot_count bs) new ≡ above n (slot_pairs bs) → used ≡ length (slots (slot_count bs) new) → (homed ≡ true → Homed (slot_count bs) (slot_count bs) new) → Settled s.memory new used homed (above n (in_order (slot_pairs (vec_items s.memory)))))
    (sym is)
    (λ long short after counted homes. settled s.memory new used homed _ (turned_forget (vec_items s.memory) new n used homed s.distinct long short after counted homes))

-- as many pairs as before are all of them
pub all_kept : (s : SlotStore) (used : ℕ) (new : List ℕ) → used ≡ length (slot_pairs new) → length (in_order (slot_pairs new)) ≡ length (in_order (slot_pairs (vec_items s.memory))) → used ≡ length (slot_pairs (vec_items s.memory))
all_kept s used new counted e =
    let old = vec_items s.memory in omega (arith, length_in_order (slot_pairs new), length_in_order (slot_pairs old))

-- every slot free
pub emptied : {Z : Type 0} (v : Vec ℕ Z) (old new : List ℕ) → old ≡ vec_items v → length new ≡ length old → Short (slot_count old) new → slots (slot_count old) new ≡ [] → Settled v new 0 true []
emptied v old new is =
    subst (λ bs. length new ≡ length bs → Short (slot_count bs) new → slots (slot_count bs) new ≡ [] → Settled v new 0 true [])
    (sym is)
    (λ long short none. settled v new 0 true [] (turned_empty (vec_items v) new long short none))
