-- Slots: what a write to one leaves of the others, and the walks over them. Assumes nothing.
use Rattle.std.specs.Prelude.{◌≡◌, ℕ, zero, suc, ◌+◌, ◌-◌, ◌*◌, ◌/◌, ◌%◌, ◌<◌, ◌≤◌, Bool, true, false, cond, ◌&&◌, List, [], ◌∷◌, ◌++◌, length, take, drop, ◌==◌, ◌≢◌, nat_eq, refl}
use Rattle.std.proofs.Common.{sym, ap, subst, ◌∙◌, inl, inr, arith, add-one, below_more}
use Rattle.std.proofs.Math.Seq.{paste}
use Rattle.std.proofs.lemmas.List.{append-nil, append_assoc, length-append, length-drop, nil_from_length, drop-drop, drop_at, take_at, take_all, take-take}
use Rattle.std.proofs.lemmas.List.Edits.{length-paste}
use Rattle.std.proofs.lemmas.Bool.{both_ways, cases_eq, cases_lt, eq-eqb, eqb-true, ne_eqb, cond-true, cond-false, and_parts}
use Rattle.std.proofs.lemmas.Bool.Decides.{nat_tests}
use Rattle.store.specs.Pairs.{pair, Pair, holds, payload_of, add, above, in_order, good, distinct}
use Rattle.memory.specs.Records.{number_of, length_of, body_of, record_of, encoded, Found}
use Rattle.memory.specs.Slots.{slot_count, slot, one, slots, slot_pairs, Short, home, Homed}
use Rattle.memory.specs.Lengths.{length_one, length_slots}
use Rattle.store.proofs.Keeping.{holds_append, payload_append, above_append, above_in_order, length_above, distinct_above, distinct_front, distinct_mid, in_order_mid}
use Rattle.memory.proofs.RecordsLemmas.{same_length, same_record, same_drop, same_less, paste_front, paste_drop, paste_past, length_encoded, decoded, number_is, payload_is, found_body}

pub one_free : (xs : List ℕ) → length_of xs ≡ 0 → one xs ≡ []
unfolding one
one_free xs e = cond-true (length_of xs == 0) _ _ (eq-eqb (length_of xs) 0 e)

pub one_held : (xs : List ℕ) → 0 < length_of xs → one xs ≡ record_of xs ∷ []
unfolding one
one_held xs l = cond-false (length_of xs == 0) _ _ (ne_eqb (length_of xs) 0 (λ e. omega arith))

same_one : (xs ys : List ℕ) → length_of xs ≤ 512 → take 518 xs ≡ take 518 ys → (one xs ≡ one ys) × (length_of xs ≡ length_of ys)
unfolding one
same_one xs ys l e =
    let k = same_length 518 xs ys (omega arith) e in
    let r = same_record 518 xs ys (omega arith) e in
    (ap (λ j. cond (j == 0) [] (record_of xs ∷ [])) k ∙ ap (λ p. cond (length_of ys == 0) [] (p ∷ [])) r, k)

pub same_slots : (n : ℕ) (xs ys : List ℕ) → ((k : ℕ) → k < n → one (slot k xs) ≡ one (slot k ys)) → slots n xs ≡ slots n ys
same_slots zero xs ys h = refl
same_slots (suc n) xs ys h =
    let ih = same_slots n xs ys (λ k l. h k (omega arith)) in
    let here = h n (omega arith) in
    ap (λ ps. ps ++ one (slot n xs)) ih ∙ ap (λ qs. slots n ys ++ qs) here

pub slots_more : (i : ℕ) (xs : List ℕ) → slots (i + 1) xs ≡ slots i xs ++ one (slot i xs)
slots_more i xs = rw add-one

-- the slots around slot i
pub slots_edit : (n i : ℕ) (xs ys : List ℕ) → i < n → ((k : ℕ) → k < n → (k ≢ i) → one (slot k xs) ≡ one (slot k ys)) → (rest : List Pair) × (slots n xs ≡ slots i xs ++ (one (slot i xs) ++ rest)) × (slots n ys ≡ slots i xs ++ (one (slot i ys) ++ rest))
slots_edit zero i xs ys l h = absurd (omega arith)
slots_edit (suc n) i xs ys l h =
    elim (cases_eq i n) [
      | inl e ↦
          let front : slots n xs ≡ slots n ys = same_slots n xs ys (λ k lk. h k (omega arith) (λ z. omega arith)) in (
            [],
            subst (λ j. slots (suc n) xs ≡ slots j xs ++ (one (slot j xs) ++ [])) (sym e) (ap (λ ps. slots n xs ++ ps) (sym (append-nil (one (slot n xs))))),
            subst (λ j. slots (suc n) ys ≡ slots j xs ++ (one (slot j ys) ++ [])) (sym e) (ap (λ ps. ps ++ one (slot n ys)) (sym front) ∙ ap (λ ps. slots n xs ++ ps) (sym (append-nil (one (slot n ys))))),
          )
      | inr ne ↦
          let ih = slots_edit n i xs ys (omega arith) (λ k lk z. h k (omega arith) z) in
          let last : one (slot n xs) ≡ one (slot n ys) = h n (omega arith) (λ z. ne (sym z)) in (
            ih.0 ++ one (slot n xs),
            ap (λ ps. ps ++ one (slot n xs)) ih.1 ∙ append_assoc (slots i xs) (one (slot i xs) ++ ih.0) (one (slot n xs)) ∙ ap (λ ps. slots i xs ++ ps) (append_assoc (one (slot i xs)) ih.0 (one (slot n xs))),
            ap (λ ps. ps ++ one (slot n ys)) ih.2 ∙ append_assoc (slots i xs) (one (slot i ys) ++ ih.0) (one (slot n ys)) ∙ ap (λ ps. slots i xs ++ ps) (append_assoc (one (slot i ys)) ih.0 (one (slot n ys)) ∙ ap (λ ps. one (slot i ys) ++ (ih.0 ++ ps)) (sym last)),
          )
    ]

-- a record written to slot i
pub record Written (bs new : List ℕ) (count i n : ℕ) (p : List ℕ) : Type 0 where
  pub long : length new ≡ length bs
  pub len : length_of (slot i new) ≡ length p
  pub record_is : record_of (slot i new) ≡ pair n p
  pub others : (k : ℕ) → k < count → (k ≢ i) → length_of (slot k bs) ≤ 512 → (one (slot k bs) ≡ one (slot k new)) × (length_of (slot k bs) ≡ length_of (slot k new))
  pub past : drop ((i + 1) * 518) new ≡ drop ((i + 1) * 518) bs

pub written : (bs new : List ℕ) (count i n : ℕ) (p : List ℕ) → i < count → count * 518 ≤ length bs → n < 4294967296 → length p ≤ 512 → new ≡ paste bs (i * 518) (encoded n p) (6 + length p) → Written bs new count i n p
written bs new count i n p l room ln lp is =
    let at = i * 518 in
    let size : length (encoded n p) ≡ 6 + length p = length_encoded n p in
    let at_in : at ≤ length bs = omega arith in
    let long-enough : 6 + length p ≤ length (encoded n p) = omega arith in
    let front : take at bs ≡ take at new = sym (ap (take at) is ∙ paste_front bs at (encoded n p) (6 + length p) at_in) in
    let whole : take (6 + length p) (encoded n p) ≡ encoded n p = take_all (6 + length p) (encoded n p) (omega arith) in
    let there : slot i new ≡ encoded n p ++ drop (at + (6 + length p)) bs =
    ap (drop at) is ∙ paste_drop bs at (encoded n p) (6 + length p) at_in ∙ ap (λ ys. ys ++ drop (at + (6 + length p)) bs) whole in
    let dec = decoded n p (drop (at + (6 + length p)) bs) ln (omega arith) in
    let after : (e : ℕ) → at + 518 ≤ e → drop e new ≡ drop e bs = λ e le. ap (drop e) is ∙ paste_past bs at (encoded n p) (6 + length p) at_in e (omega arith) long-enough in
    record {
      long = ap length is ∙ length-paste bs at (encoded n p) (6 + length p) (omega arith) long-enough;
      len = ap length_of there ∙ dec.0;
      record_is = ap record_of there ∙ dec.1;
      others = λ k lk ne short.
          elim (cases_lt k i) [
            | inl below ↦
                same_one (slot k bs) (slot k new) short (same_less (at - k * 518) 518 (slot k bs) (slot k new) (same_drop at (k * 518) bs new front (omega arith)) (omega arith))
            | inr over ↦
                let same : slot k new ≡ slot k bs = after (k * 518) (let gt : i < k = omega arith in omega arith) in
                (ap one (sym same), ap length_of (sym same))
          ];
      past = after ((i + 1) * 518) (omega arith);
    }

pub short_after : (bs new : List ℕ) (count i n : ℕ) (p : List ℕ) → Written bs new count i n p → length p ≤ 512 → Short count bs → Short count new
short_after bs new count i n p w lp short k lk =
    elim (cases_eq k i) [
      | inl z ↦ subst (λ j. length_of (slot j new) ≤ 512) (sym z) (omega (arith, w.len))
      | inr ne ↦ omega (arith, (w.others k lk ne (short k lk)).1, short k lk)
    ]

-- what one look at a slot tells
pub one_none : (n : ℕ) (xs : List ℕ) → length_of xs ≡ 0 → holds n (one xs) ≡ false
one_none n xs e = ap (holds n) (one_free xs e)

pub one_holds : (n : ℕ) (xs : List ℕ) → 0 < length_of xs → holds n (one xs) ≡ (number_of xs == n)
one_holds n xs pos = let i = number_is xs in ap (holds n) (one_held xs pos) ∙ grind (arith, nat_tests)

one_found : (n : ℕ) (xs : List ℕ) → holds n (one xs) ≡ true → (0 < length_of xs) × (number_of xs ≡ n)
one_found n xs h =
    elim (cases_eq (length_of xs) 0) [
      | inl e ↦ absurd (both_ways (holds n (one xs)) (one_none n xs e) h)
      | inr ne ↦ let pos : 0 < length_of xs = omega arith in (pos, eqb-true (number_of xs) n (sym (one_holds n xs pos) ∙ h))
    ]

-- the walk that looks for n
pub seek_more : (n i : ℕ) (bs : List ℕ) → holds n (slots i bs) ≡ false → holds n (one (slot i bs)) ≡ false → holds n (slots (i + 1) bs) ≡ false
seek_more n i bs h tail = ap (holds n) (slots_more i bs) ∙ holds_append n (slots i bs) (one (slot i bs)) ∙ cond-false (holds n (slots i bs)) _ _ h ∙ tail

-- a slot that holds n has the payload of n
pub seek_payload : (count n i : ℕ) (bs : List ℕ) → i < count → distinct (slots count bs) ≡ true → holds n (one (slot i bs)) ≡ true → (holds n (slots count bs) ≡ true) × (body_of (slot i bs) ≡ payload_of n (slots count bs))
seek_payload count n i bs l d here =
    let xs = slot i bs in
    let f = one_found n xs here in
    let parts = slots_edit count i bs bs l (λ k lk ne. refl) in
    let same : n ≡ (record_of xs).number = sym (number_is xs ∙ f.1) in
    let is : nat_eq n (record_of xs).number ≡ true = eq-eqb n (record_of xs).number same in
    let whole : slots count bs ≡ slots i bs ++ (record_of xs ∷ parts.0) = parts.1 ∙ ap (λ ps. slots i bs ++ (ps ++ parts.0)) (one_held xs f.0) in
    let before : holds n (slots i bs) ≡ false = ap (λ m. holds m (slots i bs)) same ∙ distinct_front (record_of xs) (slots i bs) parts.0 (ap distinct (sym whole) ∙ d) in (
      ap (holds n) whole ∙ holds_append n (slots i bs) _ ∙ cond-false (holds n (slots i bs)) _ _ before ∙ cond-true (n == (record_of xs).number) _ _ is,
      sym (ap (payload_of n) whole ∙ payload_append n (slots i bs) (record_of xs ∷ parts.0) before ∙ cond-true (n == (record_of xs).number) _ _ is ∙ payload_is xs),
    )

-- and is the place of n
pub seek_here : (count n i : ℕ) (bs : List ℕ) → i < count → count * 518 ≤ length bs → Short count bs → distinct (slots count bs) ≡ true → holds n (one (slot i bs)) ≡ true → Found bs (slots count bs) n (i * 518)
seek_here count n i bs l room short d here =
    let f = seek_payload count n i bs l d here in
    record { held = f.0; payload = sym (found_body (i * 518) bs) ∙ f.1; within = omega (arith, short i l) }

-- x is the slot at the front of xs, by its own bytes alone
pub record Alone (xs x : List ℕ) : Type 0 where
  pub len : length_of x ≡ length_of xs
  pub pairs : one x ≡ one xs
  pub body : body_of x ≡ body_of xs

pub alone : (xs x : List ℕ) → x ≡ take 518 xs → length_of xs ≤ 512 → Alone xs x
alone xs x is l =
    let e : take 518 xs ≡ take 518 x = sym (take-take 518 518 xs (omega arith)) ∙ ap (take 518) (sym is) in
    let s = same_one xs x l e in
    record { len = sym s.1; pairs = sym s.0; body = sym (payload_is x) ∙ ap (λ r. r.payload) (sym (same_record 518 xs x (omega arith) e)) ∙ payload_is xs }

pub alone_length : (xs x : List ℕ) → x ≡ take 518 xs → length_of x ≡ length_of xs
alone_length xs x is = sym (same_length 518 xs x (omega arith) (sym (take-take 518 518 xs (omega arith)) ∙ ap (take 518) (sym is)))

-- a walk over chunks of `size` bytes has come to slot i
pub record Walking (bs rest : List ℕ) (size i : ℕ) : Type 0 where
  pub whole : size ≡ 518
  pub here : rest ≡ slot i bs
  pub within : i * 518 ≤ length bs

-- its next chunk is x
pub record Step (bs x after : List ℕ) (size i : ℕ) : Type 0 where
  pub below : i < slot_count bs
  pub is : x ≡ take 518 (slot i bs)
  pub next : Walking bs after size (i + 1)

pub walk_step : {bs rest x after : List ℕ} {size i : ℕ} → Walking bs rest size i → rest ≡ x ++ after → length x ≡ size → Step bs x after size i
walk_step {bs} {rest} {x} {after} {size} {i} w split len =
    let e : slot i bs ≡ x ++ after = sym w.here ∙ split in
    let l : length x ≡ 518 = len ∙ w.whole in
    let room = length-drop (i * 518) bs in
    let long = ap length e ∙ length-append x after in
    let z : i * 518 + 518 ≡ (i + 1) * 518 = omega arith in
    record {
      below = omega (arith, w.within);
      is = sym (ap (take 518) e ∙ take_at x after 518 l);
      next = record { whole = w.whole; here = sym (drop_at x after 518 l) ∙ ap (drop 518) (sym e) ∙ drop-drop 518 (i * 518) bs ∙ ap (λ k. drop k bs) z; within = omega (arith, w.within) };
    }

pub walk_end : {bs rest : List ℕ} {size i : ℕ} → Walking bs rest size i → length rest < size → i ≡ slot_count bs
walk_end {bs} {rest} {size} {i} w short = omega (arith, w.within, w.whole, ap length w.here, length-drop (i * 518) bs)

-- where every record lies at home, a number that is not at home is nowhere
home_other : (count i n : ℕ) (ps : List Pair) → length ps ≤ 1 → home count i ps ≡ true → (i ≢ n % count) → holds n ps ≡ false
home_other count i n [] l h ne = refl
home_other count i n (p ∷ []) l h ne =
    cond-false (n == p.number) _ _ (ne_eqb n p.number (λ e. ne (sym (eqb-true (p.number % count) i h) ∙ ap (λ m. m % count) (sym e))))
home_other count i n (p ∷ (q ∷ qs)) l h ne = absurd (omega arith)

pub homed_miss : (count n : ℕ) (bs : List ℕ) → Homed count count bs → holds n (one (slot (n % count) bs)) ≡ false → (i : ℕ) → i ≤ count → holds n (slots i bs) ≡ false
homed_miss count n bs h miss zero l = refl
homed_miss count n bs h miss (suc i) l =
    let ih = homed_miss count n bs h miss i (omega arith) in
    let tail : holds n (one (slot i bs)) ≡ false =
    elim (cases_eq i (n % count)) [
      | inl e ↦ subst (λ k. holds n (one (slot k bs)) ≡ false) (sym e) miss
      | inr ne ↦ home_other count i n (one (slot i bs)) (length_one (slot i bs)) (h i (omega arith)) ne
    ] in
    holds_append n (slots i bs) (one (slot i bs)) ∙ cond-false (holds n (slots i bs)) _ _ ih ∙ tail

-- how many slots are in use
pub some_free : (n i : ℕ) (xs : List ℕ) → i < n → length_of (slot i xs) ≡ 0 → length (slots n xs) < n
some_free zero i xs l e = absurd (omega arith)
some_free (suc n) i xs l e =
    let a = length-append (slots n xs) (one (slot n xs)) in
    elim (cases_eq i n) [
      | inl z ↦ let f : length (one (slot n xs)) ≡ 0 = ap length (one_free (slot n xs) (subst (λ j. length_of (slot j xs) ≡ 0) z e)) in omega (arith, length_slots n xs)
      | inr ne ↦ omega (arith, some_free n i xs (omega arith) e, length_one (slot n xs))
    ]

pub full_more : (i : ℕ) (xs : List ℕ) → length (slots i xs) ≡ i → 0 < length_of (slot i xs) → length (slots (i + 1) xs) ≡ i + 1
full_more i xs h pos = omega (arith, ap length (slots_more i xs), length-append (slots i xs) (one (slot i xs)), ap length (one_held (slot i xs) pos))

pub none_held : (n : ℕ) (xs : List ℕ) → ((k : ℕ) → k < n → length_of (slot k xs) ≡ 0) → slots n xs ≡ []
none_held zero xs h = refl
none_held (suc n) xs h = ap (λ ps. ps ++ one (slot n xs)) (none_held n xs (λ k l. h k (omega arith))) ∙ one_free (slot n xs) (h n (omega arith))

-- the walk that frees each slot up to n: the first i are done, and `kept` of these have a record still
pub record Freeing (was bs : List ℕ) (count n i kept : ℕ) (homed : Bool) : Type 0 where
  pub front : slots i bs ≡ above n (slots i was)
  pub rest : drop (i * 518) bs ≡ drop (i * 518) was
  pub long : length bs ≡ length was
  pub short : Short count bs
  pub counted : kept ≡ length (slots i bs)
  pub homes : homed ≡ true → Homed count i bs
  pub still : kept ≡ length (slots i was) → bs ≡ was

above_one_keep : (n : ℕ) (xs : List ℕ) → n < number_of xs → above n (one xs) ≡ one xs
unfolding one
above_one_keep n xs l =
    let e = number_is xs in grind (arith, nat_tests)

above_one_drop : (n : ℕ) (xs : List ℕ) → number_of xs ≤ n → above n (one xs) ≡ []
unfolding one
above_one_drop n xs l =
    let e = number_is xs in grind (arith, nat_tests)

pub drop_on : (i : ℕ) (xs ys : List ℕ) → drop (i * 518) xs ≡ drop (i * 518) ys → drop ((i + 1) * 518) xs ≡ drop ((i + 1) * 518) ys
drop_on i xs ys e =
    let z : i * 518 + 518 ≡ (i + 1) * 518 = omega arith in
    subst (λ k. drop k xs ≡ drop k ys) z (sym (drop-drop 518 (i * 518) xs) ∙ ap (drop 518) e ∙ drop-drop 518 (i * 518) ys)

length_more : (i : ℕ) (xs : List ℕ) → length (slots (i + 1) xs) ≡ length (slots i xs) + length (one (slot i xs))
length_more i xs = ap length (slots_more i xs) ∙ length-append (slots i xs) (one (slot i xs))

module _ {was bs : List ℕ} {count n i kept : ℕ} {homed : Bool} (s : Freeing was bs count n i kept homed) where
  -- slot i stays as it is
  stays : above n (one (slot i bs)) ≡ one (slot i bs) → (more : ℕ) (flag : Bool) → more ≡ kept + length (one (slot i bs)) → (flag ≡ true → (homed ≡ true) × (home count i (one (slot i bs)) ≡ true)) → Freeing was bs count n (i + 1) more flag
  stays keep more flag counts at_home =
      let same : one (slot i bs) ≡ one (slot i was) = ap one s.rest in
      record {
        front = slots_more i bs ∙ ap (λ ps. ps ++ one (slot i bs)) s.front ∙ ap (λ ps. above n (slots i was) ++ ps) (sym keep ∙ ap (above n) same)
            ∙ sym (above_append n (slots i was) (one (slot i was))) ∙ ap (above n) (sym (slots_more i was));
        rest = drop_on i bs was s.rest;
        long = s.long;
        short = s.short;
        counted = omega (arith, s.counted, length_more i bs);
        homes = λ e. below_more (λ k. home count k (one (slot k bs)) ≡ true) i (s.homes (at_home e).0) (at_home e).1;
        still = λ e. s.still (omega (arith, ap length same, length_more i was));
      }

  pub freeing_free : length_of (slot i bs) ≡ 0 → Freeing was bs count n (i + 1) kept homed
  freeing_free e =
      let none = one_free (slot i bs) e in
      stays (ap (above n) none ∙ sym none) kept homed (omega (arith, ap length none)) (λ flag. (flag, ap (home count i) none))

  pub freeing_keep : 0 < length_of (slot i bs) → n < number_of (slot i bs) → (flag : Bool) → flag ≡ (homed && number_of (slot i bs) % count == i) → Freeing was bs count n (i + 1) (kept + 1) flag
  freeing_keep pos l flag is =
      let held = one_held (slot i bs) pos in
      stays (above_one_keep n (slot i bs) l) (kept + 1) flag (omega (arith, ap length held))
      (λ e. let h = and_parts homed _ (sym is ∙ e) in (h.0, ap (home count i) held ∙ ap (λ m. nat_eq (m % count) i) (number_is (slot i bs)) ∙ h.1))

  pub freeing_drop : (new : List ℕ) → i < count → Written bs new count i 0 [] → 0 < length_of (slot i bs) → number_of (slot i bs) ≤ n → Freeing was new count n (i + 1) kept homed
  freeing_drop new l w pos le =
      let before : slots i new ≡ slots i bs = sym (same_slots i bs new (λ k lk. (w.others k (omega arith) (λ z. omega arith) (s.short k (omega arith))).0)) in
      let gone : one (slot i new) ≡ [] = one_free (slot i new) w.len in
      let out : above n (one (slot i was)) ≡ [] = ap (λ xs. above n (one xs)) (sym s.rest) ∙ above_one_drop n (slot i bs) le in
      let held : length (one (slot i was)) ≡ 1 = ap (λ xs. length (one xs)) (sym s.rest) ∙ ap length (one_held (slot i bs) pos) in
      record {
        front = slots_more i new ∙ ap (λ ps. slots i new ++ ps) gone ∙ append-nil (slots i new) ∙ before ∙ s.front
            ∙ sym (ap (above n) (slots_more i was) ∙ above_append n (slots i was) (one (slot i was)) ∙ ap (λ ps. above n (slots i was) ++ ps) out ∙ append-nil (above n (slots i was)));
        rest = w.past ∙ drop_on i bs was s.rest;
        long = w.long ∙ s.long;
        short = short_after bs new count i 0 [] w (omega arith) s.short;
        counted = omega (arith, s.counted, length_more i new, ap length gone, ap length before);
        homes = λ e. below_more (λ k. home count k (one (slot k new)) ≡ true) i
            (λ k lk. ap (home count k) (sym (w.others k (omega arith) (λ z. omega arith) (s.short k (omega arith))).0) ∙ s.homes e k lk)
            (ap (home count i) gone);
        still = λ e. absurd (omega (arith, s.counted, ap length s.front, length_above n (slots i was), length_more i was));
      }

-- what a slot store keeps true of its memory, its count and its flag
abbrev pub Kept : ℕ → Bool → List ℕ → Type 0
Kept used homed bs =
    Short (slot_count bs) bs
    × (distinct (slot_pairs bs) ≡ true × ((used ≡ length (slot_pairs bs)) × ((homed ≡ true → Homed (slot_count bs) (slot_count bs) bs) × Unit {0})))

-- `new` takes the place of bs, and holds ps
pub record Turned (bs new : List ℕ) (used : ℕ) (homed : Bool) (ps : List Pair) : Type 0 where
  pub long : length new ≡ length bs
  pub keeps : Kept used homed new
  pub after : in_order (slot_pairs new) ≡ ps

turned : (bs new : List ℕ) (used : ℕ) (homed : Bool) (ps : List Pair) → length new ≡ length bs → Short (slot_count bs) new → distinct (slots (slot_count bs) new) ≡ true → used ≡ length (slots (slot_count bs) new) → (homed ≡ true → Homed (slot_count bs) (slot_count bs) new) → in_order (slots (slot_count bs) new) ≡ ps → Turned bs new used homed ps
turned bs new used homed ps long short dist counted homes after =
    let e : slot_count bs ≡ slot_count new = ap (λ m. m / 518) (sym long) in
    record {
      long = long;
      keeps = (
        subst (λ m. Short m new) e short,
        (
          subst (λ m. distinct (slots m new) ≡ true) e dist,
          (subst (λ m. used ≡ length (slots m new)) e counted, (subst (λ m. homed ≡ true → Homed m m new) e homes, tt)),
        ),
      );
      after = subst (λ m. in_order (slots m new) ≡ ps) e after;
    }

pub turned_put : (bs new : List ℕ) (i n used : ℕ) (homed flag : Bool) (p : List ℕ) → Kept used homed bs → good (pair n p) ≡ true → holds n (slot_pairs bs) ≡ false → i < slot_count bs → length_of (slot i bs) ≡ 0 → new ≡ paste bs (i * 518) (encoded n p) (6 + length p) → flag ≡ (homed && n % slot_count bs == i) → Turned bs new (used + 1) flag (add (pair n p) (in_order (slot_pairs bs)))
turned_put bs new i n used homed flag p keeps g free l e is flag_is =
    let count = slot_count bs in
    let short = keeps.0 in
    let ln : n < 4294967296 = grind (arith, nat_tests) in
    let lp : length p < 513 = grind (arith, nat_tests) in
    let pos : 0 < length p = grind (arith, nat_tests) in
    let w = written bs new count i n p l (omega arith) ln (omega arith) is in
    let parts = slots_edit count i bs new l (λ k lk ne. (w.others k lk ne (short k lk)).0) in
    let a = slots i bs in
    let b = parts.0 in
    let here : one (slot i new) ≡ pair n p ∷ [] = one_held (slot i new) (omega (arith, w.len)) ∙ ap (λ q. q ∷ []) w.record_is in
    let old : slots count bs ≡ a ++ b = parts.1 ∙ ap (λ ps. a ++ (ps ++ b)) (one_free (slot i bs) e) in
    let now-held : slots count new ≡ a ++ (pair n p ∷ b) = parts.2 ∙ ap (λ ps. a ++ (ps ++ b)) here in
    let free-ab : holds n (a ++ b) ≡ false = ap (holds n) (sym old) ∙ free in
    turned bs new (used + 1) flag (add (pair n p) (in_order (slots count bs))) w.long (short_after bs new count i n p w (omega arith) short)
    (ap distinct now-held ∙ distinct_mid (pair n p) a b g free-ab (ap distinct (sym old) ∙ keeps.1.0))
    (omega (arith, keeps.1.1.0, ap length old, ap length now-held, length-append a b, length-append a (pair n p ∷ b)))
    (λ f k lk. let h = and_parts homed _ (sym flag_is ∙ f) in elim (cases_eq k i) [
      | inl z ↦ subst (λ j. home count j (one (slot j new)) ≡ true) (sym z) (ap (home count i) here ∙ h.1)
      | inr ne ↦ ap (home count k) (sym (w.others k lk ne (short k lk)).0) ∙ keeps.1.1.1.0 h.0 k lk
    ])
    (ap in_order now-held ∙ in_order_mid (pair n p) a b free-ab ∙ ap (λ ps. add (pair n p) (in_order ps)) (sym old))

pub turned_forget : (bs new : List ℕ) (n used : ℕ) (homed : Bool) → distinct (slot_pairs bs) ≡ true → length new ≡ length bs → Short (slot_count bs) new → slots (slot_count bs) new ≡ above n (slot_pairs bs) → used ≡ length (slots (slot_count bs) new) → (homed ≡ true → Homed (slot_count bs) (slot_count bs) new) → Turned bs new used homed (above n (in_order (slot_pairs bs)))
turned_forget bs new n used homed dist long short e counted homes =
    turned bs new used homed (above n (in_order (slot_pairs bs))) long short
    (ap distinct e ∙ distinct_above n (slot_pairs bs) dist)
    counted homes
    (ap in_order e ∙ sym (above_in_order n (slot_pairs bs)))

-- slots that hold nothing are at home
home_none : (count n k : ℕ) (bs : List ℕ) → k < n → slots n bs ≡ [] → home count k (one (slot k bs)) ≡ true
home_none count zero k bs l e = absurd (omega arith)
home_none count (suc n) k bs l e =
    let a = length-append (slots n bs) (one (slot n bs)) in
    let z = ap length e in
    elim (cases_eq k n) [
      | inl same ↦ subst (λ j. home count j (one (slot j bs)) ≡ true) (sym same) (ap (home count n) (nil_from_length (one (slot n bs)) (omega arith)))
      | inr ne ↦ home_none count n k bs (omega arith) (nil_from_length (slots n bs) (omega arith))
    ]

pub turned_empty : (bs new : List ℕ) → length new ≡ length bs → Short (slot_count bs) new → slots (slot_count bs) new ≡ [] → Turned bs new 0 true []
turned_empty bs new long short e =
    turned bs new 0 true [] long short (ap distinct e) (ap length (sym e))
    (λ f k lk. home_none (slot_count bs) (slot_count bs) k new lk e)
    (ap in_order e)
