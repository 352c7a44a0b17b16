-- The laws of the states that implementations cite: sanitising is idempotent.
use Rattle.std.proofs.Common.{◌≡◌, ℕ, ◌&&◌, Bool, true, false, cond, List, [], ◌∷◌, map, length, Option, Some, None, refl, ap, sym, ◌∙◌, arith, eqb, ℤ, codes}
use Rattle.std.specs.Prelude.{option_and_then, unwrap_or}
use Rattle.std.proofs.lemmas.Bool.{and_parts, eqb-true}
use Rattle.std.proofs.lemmas.Bool.Decides.{nat_tests}
use Rattle.std.proofs.lemmas.List.{length-map}
use Rattle.std.proofs.lemmas.Option.{none-some}
use Rattle.std.specs.List.{list_all}
use Rattle.std.specs.Char.{to_ascii_lowercase, is_ascii_hexdigit}
use Rattle.form_text.specs.LineEnds.{without_newlines}
use Rattle.form_text.specs.Whitespace.{stripped}
use Rattle.form_text.proofs.Laws.{without_newlines_again, stripped_again, stripped_keeps_none}
use Rattle.form_types.specs.declared.kind.Kind.{Kind}
use Rattle.form_calendar.specs.LocalDateTime.{local_number, local_text}
use Rattle.form_calendar.proofs.Laws.{local_laws}
use Rattle.form_states.specs.declared.limits.Limits.{Limits}
use Rattle.form_states.specs.States.{number_of, text_for, sanitised, IsTextState}
use Rattle.form_states.specs.Sanitised.{kept_if_number, is_simple_color, color_sanitised, local_sanitised}

-- a state without numbers: what is made twice is made once, and no text stands for a number
pub text_again : (kind : Kind) (made : List ℕ → List ℕ) → IsTextState kind made
    → ((t : List ℕ) → made (made t) ≡ made t)
    → (l : Limits) (t : List ℕ) → sanitised kind l (sanitised kind l t) ≡ sanitised kind l t
text_again kind made rules again l t = rw (rules.0 l t, rules.0 l (made t)) (again t)

pub text_reads_back : (kind : Kind) (made : List ℕ → List ℕ) → IsTextState kind made
    → (n : ℤ) (t : List ℕ) → text_for kind n ≡ Some t → number_of kind t ≡ Some n
text_reads_back kind made rules n t h = absurd (none-some t (sym (rules.2 n) ∙ h))

-- newlines and then whitespace at the ends: nothing is left to take away
pub url_again : (t : List ℕ)
    → stripped (without_newlines (stripped (without_newlines t))) ≡ stripped (without_newlines t)
url_again t =
    ap stripped (stripped_keeps_none (without_newlines t) (without_newlines_again t))
    ∙ stripped_again (without_newlines t)

-- a text that has a number stays, and the empty text is empty whatever it has
pub kept_again : (read : List ℕ → Option ℤ) (t : List ℕ)
    → kept_if_number (read (kept_if_number (read t) t)) (kept_if_number (read t) t) ≡ kept_if_number (read t) t
kept_again read t = go (read t) refl
  where
    empty : (o : Option ℤ) → kept_if_number o [] ≡ []
    empty (Some n) = refl
    empty None = refl

    go : (o : Option ℤ) → read t ≡ o
        → kept_if_number (read (kept_if_number o t)) (kept_if_number o t) ≡ kept_if_number o t
    go (Some n) e = ap (λ o. kept_if_number o t) e
    go None e = empty (read [])

-- a normalised form is the normalised form of itself
pub local_again : (t : List ℕ) → local_sanitised (local_sanitised t) ≡ local_sanitised t
unfolding local_number
local_again t = go (local_number t) refl
  where
    go : (o : Option ℤ) → local_number t ≡ o
        → local_sanitised (unwrap_or (option_and_then local_text o) []) ≡ unwrap_or (option_and_then local_text o) []
    go None e = refl
    go (Some n) e =
        let s = local_laws.there t n (local_laws.found t n e) in
        let f : unwrap_or (local_text n) [] ≡ s.0 = ap (λ o. unwrap_or o []) s.1 in
        ap local_sanitised f
        ∙ ap (λ o. unwrap_or (option_and_then local_text o) []) (local_laws.back n s.0 s.1)

-- lower case stays lower case, and a simple colour in lower case is one
lower_again : (t : List ℕ) → map to_ascii_lowercase (map to_ascii_lowercase t) ≡ map to_ascii_lowercase t
lower_again [] = refl
lower_again (x ∷ xs) =
    let e : to_ascii_lowercase (to_ascii_lowercase x) ≡ to_ascii_lowercase x = grind (arith, nat_tests) in
    cc (e, lower_again xs)

hex_lower : (c : ℕ) → is_ascii_hexdigit c ≡ true → is_ascii_hexdigit (to_ascii_lowercase c) ≡ true
hex_lower c h = grind (arith, nat_tests)

all_hex_lower : (t : List ℕ) → list_all is_ascii_hexdigit t ≡ true
    → list_all is_ascii_hexdigit (map to_ascii_lowercase t) ≡ true
all_hex_lower [] h = refl
all_hex_lower (x ∷ xs) h =
    let parts = and_parts (is_ascii_hexdigit x) (list_all is_ascii_hexdigit xs) h in
    rw (hex_lower x parts.0) (all_hex_lower xs parts.1)

color_lower : (t : List ℕ) → is_simple_color t ≡ true → is_simple_color (map to_ascii_lowercase t) ≡ true
color_lower [] h = h
color_lower (x ∷ xs) h =
    let parts = and_parts (eqb x 35 && eqb (length xs) 6) (list_all is_ascii_hexdigit xs) h in
    let front = and_parts (eqb x 35) (eqb (length xs) 6) parts.0 in
    let first : eqb (to_ascii_lowercase x) 35 ≡ true = let e : x ≡ 35 = eqb-true x 35 front.0 in rw e refl in
    let long : eqb (length (map to_ascii_lowercase xs)) 6 ≡ true = rw length-map front.1 in
    rw (first, long) (all_hex_lower xs parts.1)

pub color_again : (t : List ℕ) → color_sanitised (color_sanitised t) ≡ color_sanitised t
color_again t = go (is_simple_color t) refl
  where
    lower : List ℕ
    lower = map to_ascii_lowercase t

    go : (b : Bool) → is_simple_color t ≡ b
        → color_sanitised (cond b lower (codes "#000000")) ≡ cond b lower (codes "#000000")
    go true e = rw (color_lower t e) (lower_again t)
    go false e = refl
