-- What a deliver that is not refused shows: its packet was read, is for the node, and is of a type that it takes. Assumes nothing.
use Rattle.std.proofs.Common.{◌≡◌, ℕ, Bool, true, false, cond, ltb, List, length, Some, None, Ok, Err, Option, Result, refl, arith}
use Rattle.answer.specs.declared.Delivered.{Delivered}
use Rattle.answer.specs.declared.Refusal.{Refusal}
use Rattle.answer.specs.declared.Refusal.TheVariants.{ShortOutput}
use Rattle.wire.specs.declared.packet.Message.{Message}
use Rattle.address.specs.declared.Address.{Address}
use Rattle.address.specs.Addresses.{address_answer, reply_length}
use Rattle.address.specs.Deliveries.{Acceptance, past_address, delivered_in, deliver_answer}

-- the packet was read, and let in as `incoming`, whose outcome is the answer
pub record LetIn {N I : Type 0} (a : Address) (takes : Message (List ℕ) → Option I) (accepts : ℕ → I → Acceptance N) (r : Result (Message (List ℕ)) Refusal) (d : Delivered) : Type 0 where
  pub packet : Message (List ℕ)
  pub incoming : I
  pub read : r ≡ Ok packet
  pub address : address_answer a packet ≡ Ok tt
  pub known : takes packet ≡ Some incoming
  pub outcome : d.outcome ≡ (accepts packet.writer incoming).outcome

answer_is : (b : Bool) (e : Refusal) (x d : Delivered) → cond b (Err e) (Ok x) ≡ Ok d → d.outcome ≡ x.outcome
answer_is true e x d ok = grind arith
answer_is false e x d ok = cc

module _ {N I : Type 0} (a : Address) (takes : Message (List ℕ) → Option I) (accepts : ℕ → I → Acceptance N) where
  past : (p : Message (List ℕ)) (w : Result (Unit {0}) Refusal) (o : Option I) (out : List ℕ) (d : Delivered) → address_answer a p ≡ w → takes p ≡ o → delivered_in a accepts p.writer (past_address w o) out ≡ Ok d → LetIn a takes accepts (Ok p) d
  past p (Err e) o out d for knows ok = grind arith
  past p (Ok x) None out d for knows ok = grind arith
  past p (Ok x) (Some i) out d for knows ok = record {
    packet = p;
    incoming = i;
    read = refl;
    address = for;
    known = knows;
    outcome = answer_is (ltb (length out) 26) ShortOutput (record { outcome = (accepts p.writer i).outcome; reply = reply_length a p.writer (accepts p.writer i).reply out }) d ok;
  }

  pub was_let_in : (r : Result (Message (List ℕ)) Refusal) (out : List ℕ) (d : Delivered) → deliver_answer a takes accepts r out ≡ Ok d → LetIn a takes accepts r d
  was_let_in (Err e) out d ok = grind arith
  was_let_in (Ok p) out d ok = past p (address_answer a p) (takes p) out d refl refl ok
