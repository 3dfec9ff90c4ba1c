-- Tests one after another, over any tests, so that no proof opens those of a packet. Assumes nothing.
use Rattle.std.proofs.Common.{◌≡◌, ℕ, ◌<◌, ◌≤◌, Bool, true, false, cond, ◌&&◌, ltb, Ok, Err, refl, ap, ◌∙◌, inl, inr, arith}
use Rattle.std.proofs.lemmas.Bool.{cases_lt, lt-ltb, le-ltb}

pub past : {X : Type 0} (t₁ t₂ t₃ t₄ : Bool) (e₁ e₂ e₃ e₄ r : X) → t₁ ≡ false → t₂ ≡ false → t₃ ≡ false → t₄ ≡ false → cond t₁ e₁ (cond t₂ e₂ (cond t₃ e₃ (cond t₄ e₄ r))) ≡ r
past t₁ t₂ t₃ t₄ e₁ e₂ e₃ e₄ r h₁ h₂ h₃ h₄ = rw (h₁, h₂, h₃, h₄)

-- a refusal under fewer tests is one under more
pub err_larger : {X Y E : Type 0} (a h v : Bool) (x : X) (y : Y) (e d : E) → h ≡ true → Err d ≡ cond (a && v) (Ok x) (Err e) → Err d ≡ cond (a && (h && v)) (Ok y) (Err e)
err_larger true true true x y e d k p = grind arith
err_larger true true false x y e d k p = ap Err (grind arith)
err_larger false true v x y e d k p = ap Err (grind arith)
err_larger a false v x y e d k p = grind arith

pub no_room : {E : Type 0} (v : Bool) (m n : ℕ) (e f : E) → v ≡ true → m < n → Err e ≡ cond v (cond (ltb m n) (Err e) (Ok n)) (Err f)
no_room v m n e f h l = rw (h, lt-ltb m n l)

pub some_room : {E : Type 0} (v : Bool) (m n s : ℕ) (e f : E) → v ≡ true → s ≡ n → n ≤ m → Ok s ≡ cond v (cond (ltb m n) (Err e) (Ok n)) (Err f)
some_room v m n s e f h k l = rw (h, le-ltb m n l, k)

-- and back: an answer that is a length says that the value is good and has room
pub had_room : {E : Type 0} (v : Bool) (m n s : ℕ) (e f : E) → Ok s ≡ cond v (cond (ltb m n) (Err e) (Ok n)) (Err f) → (v ≡ true) × (n ≤ m) × (s ≡ n)
had_room false m n s e f h = let z : ◌≡◌ {A = ℕ} 0 1 = cc in absurd (omega arith)
had_room true m n s e f h =
    elim (cases_lt m n) [
      | inl short ↦ let h' = h ∙ ap (λ b. cond b (Err e) (Ok n)) (lt-ltb m n short) in let z : ◌≡◌ {A = ℕ} 0 1 = cc in absurd (omega arith)
      | inr fits ↦ let h' = h ∙ ap (λ b. cond b (Err e) (Ok n)) (le-ltb m n fits) in (refl, fits, cc)
    ]

pub chosen_ok : {X E : Type 0} (v : Bool) (x y : X) (e : E) → Ok y ≡ cond v (Ok x) (Err e) → (v ≡ true) × (y ≡ x)
chosen_ok true x y e h = (refl, cc)
chosen_ok false x y e h = let z : ◌≡◌ {A = ℕ} 0 1 = cc in absurd (omega arith)
