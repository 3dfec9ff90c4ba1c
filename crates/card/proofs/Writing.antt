-- A card once a payload is written to the front of its memory. Assumes nothing.
use Rattle.std.proofs.Common.{◌≡◌, ℕ, ◌<◌, ◌≤◌, true, cond, leb, List, [], ◌∷◌, ◌++◌, length, take, drop, Some, vec_items, Vec, sym, refl, ap, ◌∙◌, arith}
use Rattle.std.specs.Vec.{with_items}
use Rattle.std.proofs.lemmas.List.{with_items_is, take_at, length-append, length-drop}
use Rattle.std.proofs.lemmas.Bool.{cond-true, le-leb}
use Rattle.std.proofs.lemmas.Bool.Decides.{nat_tests}
use Rattle.store.specs.Pairs.{pair, good, distinct}
use Rattle.card.specs.Cards.{card_capacity, card_pairs, card_meaning}

-- the card's memory v once `new`, with p at its front, is in it
pub record Written {Z : Type 0} (v : Vec ℕ Z) (n : ℕ) (p new : List ℕ) : Type 0 where
  pub long : length (with_items v new).items ≡ length (vec_items v)
  pub within : length p ≤ length (with_items v new).items
  pub distinct : distinct (card_pairs (Some record { number = n; len = length p }) (with_items v new).items) ≡ true
  pub room : leb 1 (card_capacity (with_items v new).items) ≡ true
  pub after : card_meaning (Some record { number = n; len = length p }) (with_items v new).items ≡ record { capacity = card_capacity (vec_items v); pairs = pair n p ∷ [] }

pub written : {Z : Type 0} (v : Vec ℕ Z) (n : ℕ) (p old new : List ℕ) → good (pair n p) ≡ true → 512 ≤ length (vec_items v) → old ≡ vec_items v → new ≡ p ++ drop (length p) old → Written v n p new
written v n p old new g room old-is is =
    let short : length p < 513 = grind (arith, nat_tests) in
    let long : length new ≡ length (vec_items v) = omega (arith, ap length is, length-append p (drop (length p) old), length-drop (length p) old, ap length old-is) in
    let items = with_items_is v new (long ∙ sym v.ok.0) in
    let front : take (length p) (with_items v new).items ≡ p = ap (take (length p)) (items ∙ is) ∙ take_at p _ (length p) refl in
    let long-now : length (with_items v new).items ≡ length (vec_items v) = ap length items ∙ long in
    let pairs : pair n (take (length p) (with_items v new).items) ∷ [] ≡ pair n p ∷ [] = ap (λ xs. pair n xs ∷ []) front in
    let capacity : card_capacity (with_items v new).items ≡ card_capacity (vec_items v) = ap (λ k. cond (leb 512 k) 1 0) long-now in
    let one : card_capacity (vec_items v) ≡ 1 = cond-true (leb 512 (length (vec_items v))) 1 0 (le-leb 512 (length (vec_items v)) room) in
    let single : distinct (pair n p ∷ []) ≡ true = grind (arith, nat_tests) in
    record {
      long = long-now;
      within = omega arith;
      distinct = ap distinct pairs ∙ single;
      room = ap (leb 1) (capacity ∙ one);
      after = cc;
    }
