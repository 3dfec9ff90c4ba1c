-- A packet that was read is within its ranges. Assumes nothing.
use Rattle.std.proofs.Common.{◌≡◌, ℕ, true, not, ◌&&◌, eqb, ltb, List, length, Ok, Err, Result, sym, ap, ◌∙◌, arith}
use Rattle.std.proofs.lemmas.Bool.{cond_both, and_parts}
use Rattle.answer.specs.declared.Refusal.{Refusal}
use Rattle.wire.specs.Decoding.{decode, header_wrong, type_wrong, expected_length, counts_agree, packet_at}
use Rattle.wire.specs.Ranges.{packet_in_range}
use Rattle.wire.specs.declared.packet.Message.{Message}

abbrev InRange : Result (Message (List ℕ)) Refusal → Type 0
InRange r = (p : Message (List ℕ)) → r ≡ Ok p → packet_in_range p ≡ true

refused : (e : Refusal) → InRange (Err e)
refused e p same = let z : ◌≡◌ {A = ℕ} 0 1 = cc in absurd (omega arith)

pub decoded_in_range : (b : List ℕ) (p : Message (List ℕ)) → decode b ≡ Ok p → packet_in_range p ≡ true
decoded_in_range b =
    cond_both (ltb (length b) 16) _ _ InRange (λ _. refused _)
    (λ _. cond_both (header_wrong b) _ _ InRange (λ _. refused _)
    (λ _. cond_both (type_wrong b) _ _ InRange (λ _. refused _)
    (λ _. cond_both (not (eqb (length b) (expected_length b))) _ _ InRange (λ _. refused _)
    (λ _. cond_both (counts_agree b && packet_in_range (packet_at b)) _ _ InRange
    (λ good p same. let is : packet_at b ≡ p = cc in ap packet_in_range (sym is) ∙ (and_parts (counts_agree b) (packet_in_range (packet_at b)) good).1)
    (λ _. refused _)))))
