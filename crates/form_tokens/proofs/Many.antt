-- A reader that is called again and again.
use Rattle.std.proofs.Common.{◌≡◌, ℕ, zero, suc, ◌<◌, ◌≤◌, List, [], ◌∷◌, ◌++◌, Result, Ok, Err, Bool, true, false, length, refl, sym, ap, ◌∙◌, arith, append_assoc, append-nil, if◌then◌else◌, ◌==◌}
use Rattle.std.proofs.lemmas.Bool.{eqb-true, le-ltb}
use Rattle.form_tokens.specs.Readers.{Fails}
use Rattle.form_tokens.specs.Readers.{◌>>=◌, many}
use Rattle.form_tokens.specs.Characters.{is_some_text}
use Rattle.form_tokens.specs.Attributes.{begins_attribute}
use Rattle.form_tokens.specs.declared.fault.Stop.{Stop}
use Rattle.form_tokens.specs.declared.fault.Stop.TheVariants as stops
use Rattle.form_tokens.specs.declared.fault.Fault.{Fault}

abbrev pub with_front : {A : Type 0} → List A → Result (List A × List ℕ) Fault → Result (List A × List ℕ) Fault
with_front front r = r >>= λ x. Ok (front ++ x.0, x.1)

-- The front was read, and what the rest gives is left.
pub record Many {A : Type 0} (reader : List ℕ → Result (A × List ℕ) Fault) (more : List ℕ → Bool) (front : List A) (rest text : List ℕ) : Type 0 where
  pub fuel : ℕ
  pub enough : length rest ≤ fuel
  pub same : with_front front (many reader more fuel rest) ≡ many reader more (length text) text

pub front_none : {A : Type 0} (r : Result (List A × List ℕ) Fault) → with_front [] r ≡ r
front_none (Ok x) = refl
front_none (Err kind) = refl

pub many_start : {A : Type 0} (reader : List ℕ → Result (A × List ℕ) Fault) (more : List ℕ → Bool) (text : List ℕ) → Many reader more [] text text
many_start reader more text = record { fuel = length text; enough = omega arith; same = front_none (many reader more (length text) text) }

pub front_more : {A : Type 0} (front : List A) (x : A) (r : Result (List A × List ℕ) Fault) → with_front (front ++ (x ∷ [])) r ≡ with_front front (r >>= λ xs. Ok (x ∷ xs.0, xs.1))
front_more {A} front x (Ok xs) = ap (λ (ys : List A). Ok (let y : List A × List ℕ = (ys, xs.1) in y)) (append_assoc front (x ∷ []) xs.0)
front_more front x (Err kind) = refl

pub turn_is : {A : Type 0} (reader : List ℕ → Result (A × List ℕ) Fault) (more : List ℕ → Bool) (n : ℕ) (rest : List ℕ) → more rest ≡ true → many reader more (suc n) rest ≡ (reader rest >>= λ x. many reader more n x.1 >>= λ xs. Ok (x.0 ∷ xs.0, xs.1))
turn_is {A} reader more n rest e =
    let f : Bool → Result (List A × List ℕ) Fault = λ b. if b then (reader rest >>= λ x. many reader more n x.1 >>= λ xs. Ok (x.0 ∷ xs.0, xs.1)) else Ok ([], rest) in
    ap f e

pub many_step : {A : Type 0} (reader : List ℕ → Result (A × List ℕ) Fault) (more : List ℕ → Bool) (front : List A) (rest text behind : List ℕ) (x : A)
    → Many reader more front rest text → more rest ≡ true → reader rest ≡ Ok (x, behind) → length behind < length rest → Many reader more (front ++ (x ∷ [])) behind text
many_step {A} reader more front rest text behind x m e r lt = go m.fuel m.enough m.same
  where
    go : (fuel : ℕ) → length rest ≤ fuel → with_front front (many reader more fuel rest) ≡ many reader more (length text) text → Many reader more (front ++ (x ∷ [])) behind text
    go zero le same = absurd (omega arith)
    go (suc n) le same =
        let g : Result (A × List ℕ) Fault → Result (List A × List ℕ) Fault = λ q. q >>= λ y. many reader more n y.1 >>= λ xs. Ok (y.0 ∷ xs.0, xs.1) in
        let one : many reader more (suc n) rest ≡ (many reader more n behind >>= λ xs. Ok (x ∷ xs.0, xs.1)) = turn_is reader more n rest e ∙ ap g r in
        record { fuel = n; enough = omega arith; same = front_more front x (many reader more n behind) ∙ (ap (with_front front) (sym one) ∙ same) }

pub many_end : {A : Type 0} (reader : List ℕ → Result (A × List ℕ) Fault) (more : List ℕ → Bool) (front : List A) (rest text : List ℕ) → Many reader more front rest text → more rest ≡ false → many reader more (length text) text ≡ Ok (front, rest)
many_end {A} reader more front rest text m e = sym m.same ∙ (ap (with_front front) (none m.fuel) ∙ ap (λ (ys : List A). Ok (let y : List A × List ℕ = (ys, rest) in y)) (append-nil front))
  where
    none : (fuel : ℕ) → many reader more fuel rest ≡ Ok ([], rest)
    none zero = refl
    none (suc n) =
        let f : Bool → Result (List A × List ℕ) Fault = λ b. if b then (reader rest >>= λ x. many reader more n x.1 >>= λ xs. Ok (x.0 ∷ xs.0, xs.1)) else Ok ([], rest) in
        ap f e

pub many_err : {A : Type 0} (reader : List ℕ → Result (A × List ℕ) Fault) (more : List ℕ → Bool) (front : List A) (rest text : List ℕ) (kind : Fault) → Many reader more front rest text → more rest ≡ true → 0 < length rest → reader rest ≡ Err kind → many reader more (length text) text ≡ Err kind
many_err {A} reader more front rest text kind m e lt r = sym m.same ∙ ap (with_front front) (stops m.fuel m.enough)
  where
    stops : (fuel : ℕ) → length rest ≤ fuel → many reader more fuel rest ≡ Err kind
    stops zero le = absurd (omega arith)
    stops (suc n) le =
        let g : Result (A × List ℕ) Fault → Result (List A × List ℕ) Fault = λ q. q >>= λ y. many reader more n y.1 >>= λ xs. Ok (y.0 ∷ xs.0, xs.1) in
        turn_is reader more n rest e ∙ ap g r

pub many_failed : {A B : Type 0} (reader : List ℕ → Result (A × List ℕ) Fault) (more : List ℕ → Bool) (front : List A) (rest text : List ℕ) (f : List A × List ℕ → Result B Fault) (stop : Stop)
    → Many reader more front rest text → more rest ≡ true → 0 < length rest → Fails stop (reader rest) → Fails stop (many reader more (length text) text >>= f)
many_failed reader more front rest text f stops.Memory m e lt h = tt
many_failed {A} {B} reader more front rest text f (stops.At kind) m e lt h =
    let g : Result (List A × List ℕ) Fault → Result B Fault = λ r. r >>= f in
    ap g (many_err reader more front rest text kind m e lt h)

pub no_text : (rest : List ℕ) → true ≡ (length rest == 0) → is_some_text rest ≡ false
no_text rest e = le-ltb 0 (length rest) (let none : length rest ≡ 0 = eqb-true (length rest) 0 (sym e) in omega arith)

pub begun_attribute : (rest : List ℕ) → true ≡ begins_attribute rest → 0 < length rest
begun_attribute [] e = absurd (cc)
begun_attribute (x ∷ xs) e = omega arith
