-- What is true of every address that passed the check of its node. Assumes nothing.
use Rattle.std.specs.Prelude.{◌≡◌, ◌≤◌, Err, Result}
use Rattle.answer.specs.declared.Refusal.{Refusal}
use Rattle.answer.specs.declared.Refusal.TheVariants.{OutOfRange}
use Rattle.address.specs.declared.Address.{Address}

-- every packet of this node has a good header
pub record AddressSound (a : Address) : Type 0 where
  pub stream : 32768 ≤ a.stream
  pub number : 1 ≤ a.number

-- refused for another reason than a value out of range, or not at all
abbrev pub WithinRange : {A : Type 0} → Result A Refusal → Type 0
WithinRange r = r ≡ Err OutOfRange → ⊥
