-- What a node with a sound address writes is never refused for a value out of range, if the body is not. Assumes nothing.
use Rattle.std.proofs.Common.{◌≡◌, ℕ, Bool, true, false, cond, ltb, leb, List, length, Ok, Err, Result, sym, subst, arith}
use Rattle.std.specs.declared.convert.Infallible.{Infallible}
use Rattle.std.proofs.lemmas.Bool.{le-leb, lt-ltb, and_from}
use Rattle.answer.specs.declared.Refusal.{Refusal}
use Rattle.answer.specs.declared.Refusal.TheVariants.{ShortOutput}
use Rattle.wire.specs.Encoding.{encode, write_answer}
use Rattle.wire.specs.Plain.{map_body, no_payload}
use Rattle.wire.specs.Ranges.{header_in_range, body_in_range, packet_in_range}
use Rattle.wire.specs.declared.packet.Body.{Body}
use Rattle.address.specs.declared.Address.{Address}
use Rattle.address.specs.Addresses.{packet_of, written}
use Rattle.address.specs.Sounds.{AddressSound, WithinRange}

pub cond_within : {A : Type 0} (b : Bool) (x y : Result A Refusal) → WithinRange x → WithinRange y → WithinRange (cond b x y)
cond_within true x y f g = f
cond_within false x y f g = g

write_within : (good : Bool) (xs out : List ℕ) → good ≡ true → WithinRange (write_answer good xs out)
write_within good xs out e =
    subst (λ b. WithinRange (write_answer b xs out)) (sym e)
    (cond_within (ltb (length out) (length xs)) (Err ShortOutput) (Ok (length xs))
    (λ clash. let z : ◌≡◌ {A = ℕ} 0 1 = cc in absurd (omega arith))
    (λ clash. let z : ◌≡◌ {A = ℕ} 0 1 = cc in absurd (omega arith)))

pub header_good : (a : Address) → AddressSound a → header_in_range a.stream a.number ≡ true
header_good a s = and_from (leb 32768 a.stream) (ltb 0 a.number) (le-leb 32768 a.stream s.stream) (lt-ltb 0 a.number (omega (arith, s.number)))

pub written_within : (a : Address) (to : ℕ) (b : Body Infallible) (out : List ℕ) → AddressSound a → body_in_range (map_body no_payload (λ h. h) b) ≡ true → WithinRange (written (packet_of a to b) out)
written_within a to b out s good =
    write_within (packet_in_range (packet_of a to b)) (encode (packet_of a to b)) out
    (and_from (header_in_range a.stream a.number) (body_in_range (map_body no_payload (λ h. h) b)) (header_good a s) good)
