-- What is let in past the address, and replies that are within range. Assumes nothing.
use Rattle.std.proofs.Common.{◌≡◌, ℕ, true, Some, None, Ok, Err, Option, Result, subst, arith}
use Rattle.std.specs.declared.convert.Infallible.{Infallible}
use Rattle.std.proofs.lemmas.Bool.{and_from}
use Rattle.answer.specs.declared.Refusal.{Refusal}
use Rattle.wire.specs.Plain.{map_body, no_payload}
use Rattle.wire.specs.Ranges.{header_in_range, body_in_range, packet_in_range}
use Rattle.wire.specs.declared.packet.Body.{Body}
use Rattle.address.specs.declared.Address.{Address}
use Rattle.address.specs.Addresses.{packet_of}
use Rattle.address.specs.Deliveries.{past_address}
use Rattle.address.specs.Sounds.{AddressSound}
use Rattle.address.proofs.Within.{header_good}

-- what is true of what may be there
abbrev pub WhereSome : {A : Type 0} → (A → Type 0) → Option A → Type 0
WhereSome P None = Unit {0}
WhereSome P (Some x) = P x

-- what is true of all that a node takes is true of what is let in
pub let_in : {I : Type 0} (P : I → Type 0) (a : Result (Unit {0}) Refusal) (o : Option I) (i : I) → WhereSome P o → past_address a o ≡ Ok i → P i
let_in P (Err e) o i good same = let z : ◌≡◌ {A = ℕ} 0 1 = cc in absurd (omega arith)
let_in P (Ok x) None i good same = let z : ◌≡◌ {A = ℕ} 0 1 = cc in absurd (omega arith)
let_in P (Ok x) (Some j) i good same = let is : j ≡ i = cc in subst P is good

abbrev pub BodyGood : Body Infallible → Type 0
BodyGood b = body_in_range (map_body no_payload (λ h. h) b) ≡ true

abbrev pub ReplyGood : Option (Body Infallible) → Type 0
ReplyGood o = WhereSome BodyGood o

reply_is : (o : Option (Body Infallible)) (b : Body Infallible) → ReplyGood o → o ≡ Some b → BodyGood b
reply_is None b good e = let z : ◌≡◌ {A = ℕ} 0 1 = cc in absurd (omega arith)
reply_is (Some c) b good e = let is : c ≡ b = cc in subst BodyGood is good

-- the packet of a good reply is within range
pub reply_in_range : (a : Address) (o : Option (Body Infallible)) (b : Body Infallible) (to : ℕ) → AddressSound a → ReplyGood o → o ≡ Some b → packet_in_range (packet_of a to b) ≡ true
reply_in_range a o b to sound good e =
    and_from (header_in_range a.stream a.number) (body_in_range (map_body no_payload (λ h. h) b)) (header_good a sound) (reply_is o b good e)
