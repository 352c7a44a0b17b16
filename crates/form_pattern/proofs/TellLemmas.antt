-- A test that tells a statement.
use Rattle.std.proofs.Common.{◌≡◌, Bool, true, false, not, ◌&&◌, ◌||◌, ◌⊎◌, inl, inr, refl}
use mathlib.Core.Bool.{false≢true}

abbrev pub Tells : Bool → Type 0 → Type 0
Tells b A = (b ≡ true → A) × (A → b ≡ true)

pub tells_map : {b : Bool} {A B : Type 0} → Tells b A → (A → B) → (B → A) → Tells b B
tells_map t f g = (λ e. f (t.0 e), λ h. t.1 (g h))

pub tells_no : {A : Type 0} → (A → ⊥) → Tells false A
tells_no f = (λ e. absurd (false≢true e), λ h. absurd (f h))

pub tells_yes : {A : Type 0} → A → Tells true A
tells_yes a = (λ e. a, λ h. refl)

pub tells_and : (a b : Bool) {A B : Type 0} → Tells a A → Tells b B → Tells (a && b) (A × B)
tells_and true true f g = (λ e. (f.0 refl, g.0 refl), λ h. refl)
tells_and true false f g = (λ e. absurd (false≢true e), λ h. absurd (false≢true (g.1 h.1)))
tells_and false b f g = (λ e. absurd (false≢true e), λ h. absurd (false≢true (f.1 h.0)))

pub tells_or : (a b : Bool) {A B : Type 0} → Tells a A → Tells b B → Tells (a || b) (A ⊎ B)
tells_or true b f g = (λ e. inl (f.0 refl), λ h. refl)
tells_or false true f g = (λ e. inr (g.0 refl), λ h. refl)
tells_or false false f g = (λ e. absurd (false≢true e), elim [ inl h ↦ f.1 h | inr h ↦ g.1 h ])

pub tells_not : (a : Bool) {A : Type 0} → Tells a A → Tells (not a) (A → ⊥)
tells_not true f = (λ e. absurd (false≢true e), λ h. absurd (h (f.0 refl)))
tells_not false f = (λ e a. false≢true (f.1 a), λ h. refl)

-- two tests of one statement
pub tells_same : (a b : Bool) {A : Type 0} → Tells a A → Tells b A → a ≡ b
tells_same true true f g = refl
tells_same true false f g = absurd (false≢true (g.1 (f.0 refl)))
tells_same false true f g = absurd (false≢true (f.1 (g.0 refl)))
tells_same false false f g = refl
