-- A piece takes at least one byte.
use Rattle.std.proofs.Common.{◌≡◌, ℕ, zero, suc, ◌<◌, ◌≤◌, List, [], ◌∷◌, length, take, drop, Result, Ok, Err, Bool, true, false, refl, subst, arith, length-drop, if◌then◌else◌, nat_lt, ◌==◌}
use Rattle.std.specs.Char.{encode_utf8}
use Rattle.std.specs.Str.Parse.{digits_value}
use Rattle.std.proofs.lemmas.Bool.{ltb-true}
use Rattle.std.proofs.lemmas.List.Sums.{prefix_len-le-length}
use Rattle.form_tokens.specs.Readers.{◌>>=◌, many}
use Rattle.form_tokens.specs.Attributes.{attribute_at, quoted_at, value_at, value_if_there}
use Rattle.form_tokens.specs.Runs.{begins, behind, behind_space, in_class, run_at, run_len}
use Rattle.form_tokens.specs.Characters.{begins_shown, chunk_at, decoded, is_reference, shown_at, shown_len}
use Rattle.form_tokens.specs.References.{character, named, named_at, number_at, numeric_at, reference_at}
use Rattle.form_tokens.specs.declared.fault.Fault.{Fault}
use Rattle.form_tokens.specs.declared.fault.Fault.TheVariants.{Lexical}
use Rattle.form_tokens.specs.declared.class.Class.{Class}
use Rattle.form_tokens.specs.declared.class.Class.TheVariants as classes
use Rattle.form_tokens.specs.declared.chunk.Context.{Context}

-- Whatever a reader gives has P.
abbrev pub Each : {A : Type 0} → (A → Type 0) → Result A Fault → Type 0
Each P (Ok x) = P x
Each P (Err kind) = Unit {0}

pub each_bind : {A B : Type 0} (P : A → Type 0) (Q : B → Type 0) (r : Result A Fault) (f : A → Result B Fault) → Each P r → ((x : A) → P x → Each Q (f x)) → Each Q (r >>= f)
each_bind P Q (Ok x) f h k = k x h
each_bind P Q (Err kind) f h k = tt

pub each_if : {A : Type 0} (P : A → Type 0) (b : Bool) (x y : Result A Fault) → Each P x → Each P y → Each P (if b then x else y)
each_if P true x y h k = h
each_if P false x y h k = k

pub each_guard : {A : Type 0} (P : A → Type 0) (b : Bool) (x : A) → (b ≡ true → P x) → Each P (if b then Ok x else Err Lexical)
each_guard P true x h = h refl
each_guard P false x h = tt

pub each_at : {A : Type 0} (P : A → Type 0) (r : Result A Fault) (x : A) → Each P r → r ≡ Ok x → P x
each_at P (Ok y) x h e = let same : y ≡ x = cc in subst P same h
each_at P (Err kind) x h e = absurd (cc)

pub any_each : {A : Type 0} (r : Result A Fault) → Each (λ x. Unit {0}) r
any_each (Ok x) = tt
any_each (Err kind) = tt

-- what stands behind is shorter than the text, or no longer
abbrev pub Short : {A : Type 0} → List ℕ → A × List ℕ → Type 0
Short text x = length x.1 < length text

abbrev pub Within : {A : Type 0} → List ℕ → A × List ℕ → Type 0
Within text x = length x.1 ≤ length text

abbrev pub Below : List ℕ → List ℕ → Type 0
Below text rest = length rest < length text

pub behind_short : (b : ℕ) (text : List ℕ) → Each (Below text) (behind b text)
behind_short b [] = tt
behind_short b (x ∷ xs) = each_guard (Below (x ∷ xs)) (x == b) xs (λ h. omega arith)

pub dropped : (n : ℕ) (text : List ℕ) → n ≤ length text → nat_lt 0 n ≡ true → length (drop n text) < length text
dropped n text le h = omega (arith, length-drop n text, ltb-true 0 n h)

pub run_short : (class : Class) (text : List ℕ) → Each (Short text) (run_at class text)
unfolding run_at
run_short class text = each_guard (Short text) (nat_lt 0 (run_len class text)) (take (run_len class text) text, drop (run_len class text) text)
    (dropped (run_len class text) text (prefix_len-le-length (in_class class) text))

pub space_within : (text : List ℕ) → length (behind_space text) ≤ length text
space_within text = omega (arith, length-drop (run_len classes.Space text) text)

-- what is short of a shorter text is short
pub shorter : {A : Type 0} (near far : List ℕ) (r : Result (A × List ℕ) Fault) → Each (Short near) r → length near < length far → Each (Short far) r
shorter near far (Ok x) h lt = omega arith
shorter near far (Err kind) h lt = tt

pub shorter_still : {A : Type 0} (near far : List ℕ) (r : Result (A × List ℕ) Fault) → Each (Within near) r → length near < length far → Each (Short far) r
shorter_still near far (Ok x) h lt = omega arith
shorter_still near far (Err kind) h lt = tt

-- a byte, and what a reader takes behind it
pub byte_then : {A : Type 0} (b : ℕ) (text : List ℕ) (f : List ℕ → Result (A × List ℕ) Fault) → ((rest : List ℕ) → length rest < length text → Each (Short text) (f rest)) → Each (Short text) (behind b text >>= f)
byte_then b text f k = each_bind (Below text) (Short text) (behind b text) f (behind_short b text) k

pub byte_short : {A : Type 0} (b : ℕ) (text : List ℕ) (f : List ℕ → Result (A × List ℕ) Fault) → ((rest : List ℕ) → Each (Short rest) (f rest)) → Each (Short text) (behind b text >>= f)
byte_short b text f k = byte_then b text f (λ rest lt. shorter rest text (f rest) (k rest) lt)

pub number_short : (radix : ℕ) (class : Class) (text : List ℕ) → Each (Short text) (number_at radix class text)
unfolding number_at
number_short radix class text =
    each_bind (Short text) (Short text) (run_at class text) _ (run_short class text) (λ digits h.
    each_bind (Below digits.1) (Short text) (behind 59 digits.1) _ (behind_short 59 digits.1) (λ rest i.
    each_bind (λ c. Unit {0}) (Short text) (character (digits_value radix digits.0)) _ (any_each (character (digits_value radix digits.0))) (λ c j. omega arith)))

pub numeric_short : (text : List ℕ) → Each (Short text) (numeric_at text)
unfolding numeric_at
numeric_short text =
    each_if (Short text) (begins 120 text) (behind 120 text >>= number_at 16 classes.Hexadecimal) (if begins 88 text then behind 88 text >>= number_at 16 classes.Hexadecimal else number_at 10 classes.Digit text)
    (byte_short 120 text (number_at 16 classes.Hexadecimal) (number_short 16 classes.Hexadecimal))
    (each_if (Short text) (begins 88 text) (behind 88 text >>= number_at 16 classes.Hexadecimal) (number_at 10 classes.Digit text)
    (byte_short 88 text (number_at 16 classes.Hexadecimal) (number_short 16 classes.Hexadecimal))
    (number_short 10 classes.Digit text))

pub named_short : (text : List ℕ) → Each (Short text) (named_at text)
unfolding named_at
named_short text =
    each_bind (Short text) (Short text) (run_at classes.Alphanumeric text) _ (run_short classes.Alphanumeric text) (λ name h.
    each_bind (Below name.1) (Short text) (behind 59 name.1) _ (behind_short 59 name.1) (λ rest i.
    each_bind (λ c. Unit {0}) (Short text) (named name.0) _ (any_each (named name.0)) (λ c j. omega arith)))

pub reference_short : (text : List ℕ) → Each (Short text) (reference_at text)
unfolding reference_at
reference_short text = each_if (Short text) (begins 35 text) (behind 35 text >>= numeric_at) (named_at text) (byte_short 35 text numeric_at numeric_short) (named_short text)

pub shown_within : (place : Context) (text : List ℕ) → shown_len place text ≤ length text
shown_within place [] = omega arith
shown_within place (b ∷ bs) = go (begins_shown place (b ∷ bs)) (shown_within place bs)
  where
    go : (t : Bool) → shown_len place bs ≤ length bs → (if t then suc (shown_len place bs) else 0) ≤ suc (length bs)
    go true le = omega arith
    go false le = omega arith

pub shown_short : (place : Context) (text : List ℕ) → Each (Short text) (shown_at place text)
unfolding shown_at
shown_short place text = each_guard (Short text) (nat_lt 0 (shown_len place text)) (take (shown_len place text) text, drop (shown_len place text) text)
    (dropped (shown_len place text) text (shown_within place text))

pub chunk_short : (place : Context) (text : List ℕ) → Each (Short text) (chunk_at place text)
unfolding chunk_at
chunk_short place text =
    each_if (Short text) (is_reference text) (behind 38 text >>= reference_at >>= λ x. Ok (encode_utf8 x.0, x.1)) (shown_at place text)
    (each_bind (Short text) (Short text) (behind 38 text >>= reference_at) _ (byte_short 38 text reference_at reference_short) (λ x h. h))
    (shown_short place text)

pub many_within : {A : Type 0} (reader : List ℕ → Result (A × List ℕ) Fault) (more : List ℕ → Bool) → ((text : List ℕ) → Each (Short text) (reader text)) → (n : ℕ) (text : List ℕ) → Each (Within text) (many reader more n text)
many_within reader more short zero text = omega arith
many_within {A} reader more short (suc n) text = each_if (Within text) (more text) (reader text >>= λ x. many reader more n x.1 >>= λ xs. Ok (x.0 ∷ xs.0, xs.1)) (Ok ([], text))
    (each_bind (Short text) (Within text) (reader text) _ (short text) (λ x h. each_bind (Within x.1) (Within text) (many reader more n x.1) _ (many_within reader more short n x.1) (λ xs g. omega arith)))
    (omega arith)

pub quoted_short : (quote : ℕ) (text : List ℕ) → Each (Short text) (quoted_at quote text)
unfolding quoted_at
quoted_short quote text = each_bind (Below (drop (run_len (classes.Quoted quote) text) text)) (Short text) (behind quote (drop (run_len (classes.Quoted quote) text) text)) _ (behind_short quote (drop (run_len (classes.Quoted quote) text) text))
    (λ rest h. omega (arith, length-drop (run_len (classes.Quoted quote) text) text))

pub value_short : (text : List ℕ) → Each (Short text) (value_at text)
unfolding value_at
value_short text =
    each_if (Short text) (begins 34 text) (behind 34 text >>= quoted_at 34) (if begins 39 text then behind 39 text >>= quoted_at 39 else run_at classes.Unquoted text)
    (byte_short 34 text (quoted_at 34) (quoted_short 34))
    (each_if (Short text) (begins 39 text) (behind 39 text >>= quoted_at 39) (run_at classes.Unquoted text)
    (byte_short 39 text (quoted_at 39) (quoted_short 39)) (run_short classes.Unquoted text))

pub value_within : (text : List ℕ) → Each (Within text) (value_if_there text)
unfolding value_if_there
value_within text =
    each_if (Within text) (begins 61 (behind_space text)) (behind 61 (behind_space text) >>= λ rest. value_at (behind_space rest)) (Ok ([], text))
    (each_bind (Below (behind_space text)) (Within text) (behind 61 (behind_space text)) _ (behind_short 61 (behind_space text)) (λ rest h. loosened rest h (value_at (behind_space rest)) (value_short (behind_space rest))))
    (omega arith)
  where
    loosened : (rest : List ℕ) → length rest < length (behind_space text) → (r : Result (List ℕ × List ℕ) Fault) → Each (Short (behind_space rest)) r → Each (Within text) r
    loosened rest h (Ok x) g = omega (arith, space_within text, space_within rest)
    loosened rest h (Err kind) g = tt

pub attribute_short : (text : List ℕ) → Each (Short text) (attribute_at text)
unfolding attribute_at
attribute_short text =
    each_bind (Short (behind_space text)) (Short text) (run_at classes.AttributeName (behind_space text)) _ (run_short classes.AttributeName (behind_space text)) (λ name h.
    each_bind (Within name.1) (Short text) (value_if_there name.1) _ (value_within name.1) (λ value i.
    each_bind (λ bytes. Unit {0}) (Short text) (decoded value.0) _ (any_each (decoded value.0)) (λ bytes j. omega (arith, space_within text))))
