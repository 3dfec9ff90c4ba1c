-- The journal's two walks over its records, turn by turn. Assumes nothing.
use Rattle.std.proofs.Common.{◌≡◌, ℕ, ◌+◌, ◌-◌, ◌/◌, ◌<◌, ◌≤◌, true, false, eqb, ltb, List, [], ◌∷◌, ◌++◌, length, take, drop, sym, ap, subst, ◌∙◌, arith}
use lib.Seq.{paste}
use Rattle.std.proofs.lemmas.List.{append-nil, append_assoc, length-drop, drop-drop, take_all}
use Rattle.std.proofs.lemmas.List.Edits.{length-paste}
use Rattle.std.proofs.lemmas.Bool.{eq-eqb, ne_eqb, lt-ltb, le-ltb, cond-true, cond-false}
use Rattle.store.specs.Pairs.{pair, holds, payload_of, above, distinct}
use Rattle.memory.specs.Records.{number_of, length_of, size_of, body_of, record_of, records, span, encoded, Found}
use Rattle.memory.proofs.RecordsLemmas.{run_step, run_push, same_run, same_record, same_length, paste_front, paste_here, paste_past, paste_drop, span_bound, length_encoded, decoded, paste_same, number_is, payload_is, found_body}

-- a walk that looks for n: `left` records of `rest` are not yet read
pub record Seeking (bs : List ℕ) (count n : ℕ) (rest : List ℕ) (left : ℕ) : Type 0 where
  pub fits : span left rest ≤ length rest
  pub held : holds n (records count bs) ≡ holds n (records left rest)
  pub payload : payload_of n (records count bs) ≡ payload_of n (records left rest)

module _ {bs : List ℕ} {count n : ℕ} {rest : List ℕ} {left : ℕ} (s : Seeking bs count n rest left) (l : 0 < left) where
  pub seeking_head : size_of rest ≤ length rest
  seeking_head = omega (arith, (run_step left rest l).1, s.fits)

  pub seeking_more : (fewer : ℕ) → left - 1 ≡ fewer → (number_of rest ≡ n → ⊥) → Seeking bs count n (drop (size_of rest) rest) fewer
  seeking_more fewer e ne =
      let st = run_step left rest l in
      let no : eqb n (record_of rest).number ≡ false = ne_eqb n (record_of rest).number (λ e. ne (sym (number_is rest) ∙ sym e)) in
      subst (Seeking bs count n (drop (size_of rest) rest)) e record {
        fits = omega (arith, st.1, s.fits, length-drop (size_of rest) rest);
        held = s.held ∙ ap (holds n) st.0 ∙ cond-false (eqb n (record_of rest).number) true _ no;
        payload = s.payload ∙ ap (payload_of n) st.0 ∙ cond-false (eqb n (record_of rest).number) _ _ no;
      }

  pub seeking_payload : number_of rest ≡ n → (holds n (records count bs) ≡ true) × (body_of rest ≡ payload_of n (records count bs))
  seeking_payload e =
      let st = run_step left rest l in
      let is : eqb n (record_of rest).number ≡ true = eq-eqb n (record_of rest).number (sym e ∙ sym (number_is rest)) in (
        s.held ∙ ap (holds n) st.0 ∙ cond-true (eqb n (record_of rest).number) true _ is,
        sym (s.payload ∙ ap (payload_of n) st.0 ∙ cond-true (eqb n (record_of rest).number) _ _ is ∙ payload_is rest),
      )

-- where `rest` is the bytes from `at` on, that is the place of n
pub seeking_here : {bs : List ℕ} {count n at left : ℕ} → Seeking bs count n (drop at bs) left → 0 < left → number_of (drop at bs) ≡ n → Found bs (records count bs) n at
seeking_here {bs} {count} {n} {at} s l e =
    let f = seeking_payload s l e in
    record { held = f.0; payload = sym (found_body at bs) ∙ f.1; within = omega (arith, seeking_head s l, length-drop at bs) }

pub seeking_all : {bs : List ℕ} {count n : ℕ} {rest : List ℕ} {left : ℕ} → Seeking bs count n rest left → left ≡ 0 → holds n (records count bs) ≡ false
seeking_all {bs} {count} {n} {rest} s e = s.held ∙ ap (λ k. holds n (records k rest)) e

-- a walk that keeps what is above n: `kept` records lie in the first `to` bytes, and `left` from `from` on are not yet read
pub record Packing (was bs : List ℕ) (count n kept to from left : ℕ) : Type 0 where
  pub keeps : records kept bs ++ above n (records left (drop from bs)) ≡ above n (records count was)
  pub end : span kept bs ≡ to
  pub behind : to ≤ from
  pub fits : from + span left (drop from bs) ≤ length bs
  pub long : length bs ≡ length was
  pub fewer : kept + left ≤ count
  pub still : kept + left ≡ count → (to ≡ from) × (bs ≡ was)

module _ {was bs : List ℕ} {count n kept to from left : ℕ} (s : Packing was bs count n kept to from left) where
  pub packing_head : 0 < left → from + size_of (drop from bs) ≤ length bs
  packing_head l = omega (arith, (run_step left (drop from bs) l).1, s.fits)

  pub packing_skip : 0 < left → (fewer : ℕ) → left - 1 ≡ fewer → number_of (drop from bs) ≤ n → Packing was bs count n kept to (from + size_of (drop from bs)) fewer
  packing_skip l fewer one-less le =
      let xs = drop from bs in
      let st = run_step left xs l in
      let dd : drop (size_of xs) xs ≡ drop (from + size_of xs) bs = drop-drop (size_of xs) from bs in
      let no : ltb n (record_of xs).number ≡ false = le-ltb n (record_of xs).number (omega (arith, number_is xs)) in
      let out : above n (records left xs) ≡ above n (records (left - 1) (drop (from + size_of xs) bs)) =
      ap (above n) st.0 ∙ cond-false (ltb n (record_of xs).number) _ _ no ∙ ap (λ ys. above n (records (left - 1) ys)) dd in
      subst (Packing was bs count n kept to (from + size_of (drop from bs))) one-less record {
        keeps = ap (λ ps. records kept bs ++ ps) (sym out) ∙ s.keeps;
        end = s.end;
        behind = omega (arith, s.behind);
        fits = omega (arith, st.1, s.fits, ap (span (left - 1)) dd);
        long = s.long;
        fewer = omega (arith, s.fewer);
        still = λ e. absurd (omega (arith, s.fewer));
      }

  pub packing_move : (new : List ℕ) → 0 < left → (fewer : ℕ) → left - 1 ≡ fewer → n < number_of (drop from bs) → new ≡ paste bs to (drop from bs) (size_of (drop from bs)) → Packing was new count n (kept + 1) (to + size_of (drop from bs)) (from + size_of (drop from bs)) fewer
  packing_move new l fewer one-less lt is =
      let xs = drop from bs in
      let size = size_of xs in
      let st = run_step left xs l in
      let head = packing_head l in
      let to_in : to ≤ length bs = omega (arith, s.behind) in
      let long-enough : size ≤ length xs = omega (arith, length-drop from bs) in
      let front : take to new ≡ take to bs = ap (take to) is ∙ paste_front bs to xs size to_in in
      let here : take size (drop to new) ≡ take size xs = ap (λ ys. take size (drop to ys)) is ∙ paste_here bs to xs size to_in long-enough in
      let past : drop (from + size) new ≡ drop (from + size) bs = ap (drop (from + size)) is ∙ paste_past bs to xs size to_in (from + size) (omega (arith, s.behind)) long-enough in
      let old = same_run kept to bs new (omega (arith, s.end)) (sym front) in
      let rec : record_of xs ≡ record_of (drop to new) = same_record size xs (drop to new) (omega arith) (sym here) in
      let len : length_of xs ≡ length_of (drop to new) = same_length size xs (drop to new) (omega arith) (sym here) in
      let sp : span kept new ≡ to = sym old.1 ∙ s.end in
      let push = run_push kept new in
      let at-to : drop (span kept new) new ≡ drop to new = ap (λ k. drop k new) sp in
      let dd : drop size xs ≡ drop (from + size) new = drop-drop size from bs ∙ sym past in
      let yes-above : ltb n (record_of xs).number ≡ true = lt-ltb n (record_of xs).number (omega (arith, number_is xs)) in
      let out : above n (records left xs) ≡ record_of xs ∷ above n (records (left - 1) (drop (from + size) new)) =
      ap (above n) st.0 ∙ cond-true (ltb n (record_of xs).number) _ _ yes-above ∙ ap (λ ys. record_of xs ∷ above n (records (left - 1) ys)) dd in
      let joined : records (kept + 1) new ≡ records kept bs ++ (record_of xs ∷ []) =
      push.0 ∙ ap (λ ys. records kept new ++ (record_of ys ∷ [])) at-to ∙ ap (λ r. records kept new ++ (r ∷ [])) (sym rec) ∙ ap (λ rs. rs ++ (record_of xs ∷ [])) (sym old.0) in
      let long-new : length new ≡ length bs = ap length is ∙ length-paste bs to xs size (omega (arith, s.behind)) long-enough in
      subst (Packing was new count n (kept + 1) (to + size_of (drop from bs)) (from + size_of (drop from bs))) one-less record {
        keeps = ap (λ rs. rs ++ above n (records (left - 1) (drop (from + size) new))) joined
            ∙ append_assoc (records kept bs) (record_of xs ∷ []) (above n (records (left - 1) (drop (from + size) new)))
            ∙ ap (λ ps. records kept bs ++ ps) (sym out) ∙ s.keeps;
        end = omega (arith, push.1, sp, ap length_of at-to, len);
        behind = omega (arith, s.behind);
        fits = omega (arith, st.1, s.fits, ap (span (left - 1)) dd, long-new);
        long = long-new ∙ s.long;
        fewer = omega (arith, s.fewer);
        still = λ e.
            let b = s.still (omega arith) in
            (omega (arith, b.0), is ∙ sym (paste_same bs to size ∙ ap (λ k. paste bs to (drop k bs) size) b.0) ∙ b.1);
      }

  pub packing_all : left ≡ 0 → records kept bs ≡ above n (records count was)
  packing_all e = sym (append-nil (records kept bs)) ∙ ap (λ k. records kept bs ++ above n (records k (drop from bs))) (sym e) ∙ s.keeps

-- room for one more
pub room_for : (count used : ℕ) (bs : List ℕ) → span count bs ≡ used → used ≤ length bs → count < length bs / 518 → distinct (records count bs) ≡ true → used + 518 ≤ length bs
room_for count used bs e l r a = omega (arith, span_bound count bs a (omega arith))

-- a record written past the last
pub appended : (count used n : ℕ) (bs p new : List ℕ) → span count bs ≡ used → used + (6 + length p) ≤ length bs → n < 4294967296 → length p < 65536 → new ≡ paste bs used (encoded n p) (6 + length p) → (records (count + 1) new ≡ records count bs ++ (pair n p ∷ [])) × (span (count + 1) new ≡ used + (6 + length p)) × (length new ≡ length bs)
appended count used n bs p new e fits ln lp is =
    let size : length (encoded n p) ≡ 6 + length p = length_encoded n p in
    let to_in : used ≤ length bs = omega arith in
    let long-enough : 6 + length p ≤ length (encoded n p) = omega arith in
    let front : take used new ≡ take used bs = ap (take used) is ∙ paste_front bs used (encoded n p) (6 + length p) to_in in
    let old = same_run count used bs new (omega arith) (sym front) in
    let sp : span count new ≡ used = sym old.1 ∙ e in
    let whole : take (6 + length p) (encoded n p) ≡ encoded n p = take_all (6 + length p) (encoded n p) (omega arith) in
    let there : drop (span count new) new ≡ encoded n p ++ drop (used + (6 + length p)) bs =
    ap (λ k. drop k new) sp ∙ ap (drop used) is ∙ paste_drop bs used (encoded n p) (6 + length p) to_in ∙ ap (λ ys. ys ++ drop (used + (6 + length p)) bs) whole in
    let dec = decoded n p (drop (used + (6 + length p)) bs) ln lp in
    let push = run_push count new in (
      push.0 ∙ ap (λ ys. records count new ++ (record_of ys ∷ [])) there ∙ ap (λ r. records count new ++ (r ∷ [])) dec.1 ∙ ap (λ rs. rs ++ (pair n p ∷ [])) (sym old.0),
      omega (arith, push.1, sp, ap length_of there, dec.0),
      ap length is ∙ length-paste bs used (encoded n p) (6 + length p) fits long-enough,
    )
