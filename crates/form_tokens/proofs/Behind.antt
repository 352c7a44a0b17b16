-- What stands behind a reference is the text without its front.
use Rattle.std.proofs.Common.{◌≡◌, ℕ, ◌-◌, ◌+◌, ◌<◌, ◌≤◌, List, [], ◌∷◌, Result, Ok, Err, take, drop, length, length-drop, nat_lt, refl, sym, ap, ◌∙◌, arith, inl, inr, ◌⊎◌, ◌==◌, if◌then◌else◌}
use Rattle.std.proofs.Math.ListN.{drop_of_length-le}
use Rattle.std.proofs.lemmas.Bool.{cases_lt}
use Rattle.std.proofs.lemmas.List.{drop-drop}
use Rattle.std.specs.Str.Parse.{digits_value}
use Rattle.form_tokens.specs.Readers.{◌>>=◌}
use Rattle.form_tokens.specs.References.{character, named, named_at, number_at, numeric_at, reference_at}
use Rattle.form_tokens.specs.Runs.{begins, behind, run_at, run_len}
use Rattle.form_tokens.specs.declared.class.Class.{Class}
use Rattle.form_tokens.specs.declared.class.Class.TheVariants as classes
use Rattle.form_tokens.specs.declared.fault.Fault.{Fault}
use Rattle.form_tokens.proofs.Shorter.{Each, any_each, each_at, each_bind, each_guard, each_if}

-- the rest is the text without some bytes at its front
abbrev pub IsBehind : List ℕ → List ℕ → Type 0
IsBehind text rest = (k : ℕ) × (rest ≡ drop k text)

abbrev pub Leaves : {A : Type 0} → List ℕ → A × List ℕ → Type 0
Leaves text x = IsBehind text x.1

twice : (text between rest : List ℕ) → IsBehind text between → IsBehind between rest → IsBehind text rest
twice text between rest h g = (h.0 + g.0, g.1 ∙ (ap (drop g.0) h.1 ∙ drop-drop g.0 h.0 text))

byte_behind : (b : ℕ) (text : List ℕ) → Each (IsBehind text) (behind b text)
byte_behind b [] = tt
byte_behind b (x ∷ xs) = each_guard (IsBehind (x ∷ xs)) (x == b) xs (λ h. (1, refl))

run_behind : (class : Class) (text : List ℕ) → Each (Leaves text) (run_at class text)
unfolding run_at
run_behind class text = each_guard (Leaves text) (nat_lt 0 (run_len class text)) (take (run_len class text) text, drop (run_len class text) text) (λ h. (run_len class text, refl))

number_behind : (radix : ℕ) (class : Class) (text : List ℕ) → Each (Leaves text) (number_at radix class text)
unfolding number_at
number_behind radix class text =
    each_bind (Leaves text) (Leaves text) (run_at class text) _ (run_behind class text) (λ digits h.
    each_bind (IsBehind digits.1) (Leaves text) (behind 59 digits.1) _ (byte_behind 59 digits.1) (λ rest i.
    each_bind (λ c. Unit {0}) (Leaves text) (character (digits_value radix digits.0)) _ (any_each (character (digits_value radix digits.0))) (λ c j. twice text digits.1 rest h i)))

-- a byte, and what a reader leaves behind it
byte_leaves : {A : Type 0} (b : ℕ) (text : List ℕ) (f : List ℕ → Result (A × List ℕ) Fault) → ((rest : List ℕ) → Each (Leaves rest) (f rest)) → Each (Leaves text) (behind b text >>= f)
byte_leaves {A} b text f k = each_bind (IsBehind text) (Leaves text) (behind b text) f (byte_behind b text) (λ rest h. farther rest h (f rest) (k rest))
  where
    farther : (rest : List ℕ) → IsBehind text rest → (r : Result (A × List ℕ) Fault) → Each (Leaves rest) r → Each (Leaves text) r
    farther rest h (Ok x) g = twice text rest x.1 h g
    farther rest h (Err kind) g = tt

numeric_behind : (text : List ℕ) → Each (Leaves text) (numeric_at text)
unfolding numeric_at
numeric_behind text =
    each_if (Leaves text) (begins 120 text) (behind 120 text >>= number_at 16 classes.Hexadecimal) (if begins 88 text then behind 88 text >>= number_at 16 classes.Hexadecimal else number_at 10 classes.Digit text)
    (byte_leaves 120 text (number_at 16 classes.Hexadecimal) (number_behind 16 classes.Hexadecimal))
    (each_if (Leaves text) (begins 88 text) (behind 88 text >>= number_at 16 classes.Hexadecimal) (number_at 10 classes.Digit text)
    (byte_leaves 88 text (number_at 16 classes.Hexadecimal) (number_behind 16 classes.Hexadecimal))
    (number_behind 10 classes.Digit text))

named_behind : (text : List ℕ) → Each (Leaves text) (named_at text)
unfolding named_at
named_behind text =
    each_bind (Leaves text) (Leaves text) (run_at classes.Alphanumeric text) _ (run_behind classes.Alphanumeric text) (λ name h.
    each_bind (IsBehind name.1) (Leaves text) (behind 59 name.1) _ (byte_behind 59 name.1) (λ rest i.
    each_bind (λ c. Unit {0}) (Leaves text) (named name.0) _ (any_each (named name.0)) (λ c j. twice text name.1 rest h i)))

at_behind : (text : List ℕ) → Each (Leaves text) (reference_at text)
unfolding reference_at
at_behind text = each_if (Leaves text) (begins 35 text) (behind 35 text >>= numeric_at) (named_at text) (byte_leaves 35 text numeric_at numeric_behind) (named_behind text)

-- the rest by its length
by_length : (text rest : List ℕ) → IsBehind text rest → rest ≡ drop (length text - length rest) text
by_length text rest h = go (cases_lt h.0 (length text))
  where
    size : length rest ≡ length text - h.0
    size = ap length h.1 ∙ length-drop h.0 text

    go : (h.0 < length text) ⊎ (length text ≤ h.0) → rest ≡ drop (length text - length rest) text
    go (inl lt) = h.1 ∙ ap (λ k. drop k text) (let e : h.0 ≡ length text - length rest = omega (arith, size) in e)
    go (inr ge) =
        let whole : length text ≤ length text - length rest = omega (arith, size) in
        h.1 ∙ (drop_of_length-le text ge ∙ sym (drop_of_length-le text whole))

-- what stands behind a reference
pub reference_behind : (text between rest : List ℕ) (c : ℕ) → behind 38 text ≡ Ok between → reference_at between ≡ Ok (c, rest) → rest ≡ drop (length text - length rest) text
reference_behind text between rest c e f =
    by_length text rest (twice text between rest (each_at (IsBehind text) (behind 38 text) between (byte_behind 38 text) e) (each_at (Leaves between) (reference_at between) (c, rest) (at_behind between) f))
