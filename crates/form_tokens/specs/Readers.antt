-- What a reader gives: a value and what stands behind it, or a fault.
use Rattle.std.specs.Prelude.{Bool, Err, List, Ok, Result, [], if◌then◌else◌, suc, zero, ℕ, ◌∷◌, ◌≡◌}
use Rattle.form_tokens.specs.declared.fault.Fault.{Fault}
use Rattle.form_tokens.specs.declared.fault.Stop.TheVariants as stops
use Rattle.form_tokens.specs.declared.fault.Stop.{Stop}

-- one reader after another
infixl 10 ◌>>=◌
abbrev pub ◌>>=◌ : {A B : Type 0} → Result A Fault → (A → Result B Fault) → Result B Fault
(Ok x) >>= f = f x
(Err e) >>= f = Err e

-- what a reader gives again and again, as long as the test holds of the rest; each turn takes a byte at least
abbrev pub many : {A : Type 0} → (List ℕ → Result (A × List ℕ) Fault) → (List ℕ → Bool) → ℕ → List ℕ
    → Result (List A × List ℕ) Fault
many reader more zero text = Ok ([], text)
many reader more (suc n) text =
    if more text then (reader text >>= λ x. many reader more n x.1 >>= λ xs. Ok (x.0 ∷ xs.0, xs.1)) else Ok ([], text)

-- the fault of the text, or there was no memory
abbrev pub Fails : {Y : Type 0} → Stop → Result Y Fault → Type 0
Fails stops.Memory read = Unit {0}
Fails (stops.At kind) read = read ≡ Err kind

-- What a call returned, seen by view, is what reading gives, unless memory ran out.
abbrev pub Gives : {X Y : Type 0} → (X → Y) → Result X Stop → Result Y Fault → Type 0
Gives view (Ok x) read = read ≡ Ok (view x)
Gives view (Err e) read = Fails e read
