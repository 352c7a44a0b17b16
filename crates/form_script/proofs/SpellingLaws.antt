-- What spells a text literal is read, and what is read is spelled so.
use Rattle.std.proofs.Common.{◌≡◌, ℕ, zero, suc, ◌<◌, ◌≤◌, Bool, true, false, List, [], ◌∷◌, ◌++◌, length, Option, Some, None, option_map, Result, Ok, Err, IfOk, is_some, inl, inr, refl, sym, ap, subst, ◌∙◌, arith, append_assoc, ◌&&◌, nat_le, nat_lt, if◌then◌else◌, ◌==◌}
use Rattle.std.specs.Char.{digit_value, encode_utf8, is_ascii_hexdigit}
use Rattle.std.specs.List.{AllByRecursion, flat_map, list_all}
use Rattle.std.specs.Str.Parse.{AllDigits, IsNumeral, digits_value}
use Rattle.std.proofs.lemmas.Bool.{eqb-true}
use Rattle.std.proofs.lemmas.Bool.Decides.{nat_tests}
use Rattle.form_script.specs.Quoted.{IsCharacterNumber, IsEscape, IsInside, IsPiece, IsQuoted, Piece, Itself, Escape, is_plain, is_scalar, meaning, named_escape, numbered, spelling}
use Rattle.form_script.specs.Reading.{◌>>=◌, character_at, character_of, cut, escape_at, first_at, before_last, inside_of, is_hexadecimal, literal_text, numbered_at, text_by, text_in}
use Rattle.form_script.specs.Gives.{Gives}
use Rattle.form_script.specs.declared.fault.LineFault.TheVariants as faults
use Rattle.form_script.specs.declared.fault.LineFault.{LineFault}
use Rattle.form_script.proofs.CutLaws.{Parts, cut_found, cut_here, first_none, last_found, last_here}
use Rattle.form_script.proofs.LiteralLaws.{Rest, hex_numeral, text_empty, text_escape, text_plain}

-- ---- the number of a character

hex_test : (b : ℕ) → digit_value b < 16 → (is_ascii_hexdigit b ≡ true) × ((b == 125) ≡ false)
hex_test b h = (grind (arith, nat_tests), grind (arith, nat_tests))

all_hex : (digits : List ℕ) → AllDigits 16 digits → (list_all is_ascii_hexdigit digits ≡ true) × (cut 125 digits ≡ None)
all_hex [] h = (refl, refl)
all_hex (b ∷ bs) h =
    let first = hex_test b h.0 in
    let more = all_hex bs h.1 in
    (ap (λ t. t && list_all is_ascii_hexdigit bs) first.0 ∙ more.0, first_none 125 b bs first.1 more.1)

is_hex : (digits : List ℕ) → IsNumeral 16 digits → length digits ≤ 6 → is_hexadecimal digits ≡ true
is_hex digits h le = go (nat_lt 0 (length digits)) refl (nat_le (length digits) 6) refl
  where
    go : (x : Bool) → nat_lt 0 (length digits) ≡ x → (y : Bool) → nat_le (length digits) 6 ≡ y → (x && (y && list_all is_ascii_hexdigit digits)) ≡ true
    go true e true f = (all_hex digits h.1).0
    go true e false f = absurd (grind (arith, nat_tests))
    go false e y f = absurd (grind (arith, nat_tests))

scalar_at : (n : ℕ) → is_scalar n ≡ true → character_at n ≡ Some n
scalar_at n h = ap (λ t. if t then Some n else None) h

number_there : (digits : List ℕ) (c : ℕ) → IsCharacterNumber digits c → character_of digits ≡ Some c
unfolding character_of
number_there digits c h =
    ap (λ t. if t then character_at (digits_value 16 digits) else None) (is_hex digits h.numeral h.short)
    ∙ scalar_at (digits_value 16 digits) (subst (λ n. is_scalar n ≡ true) h.value h.scalar) ∙ ap Some (sym h.value)

number_found : (digits : List ℕ) (c : ℕ) → character_of digits ≡ Some c → IsCharacterNumber digits c
unfolding character_of
number_found digits c h = go (is_hexadecimal digits) refl (is_scalar (digits_value 16 digits)) refl h
  where
    go : (x : Bool) → is_hexadecimal digits ≡ x → (y : Bool) → is_scalar (digits_value 16 digits) ≡ y → (if x then (if y then Some (digits_value 16 digits) else None) else None) ≡ Some c → IsCharacterNumber digits c
    go true e true f h =
        let numeral = hex_numeral digits e in
        let is : digits_value 16 digits ≡ c = cc in
        record { numeral = numeral.0; short = numeral.1; value = sym is; scalar = subst (λ n. is_scalar n ≡ true) is f }
    go true e false f h = absurd (cc)
    go false e y f h = absurd (cc)

-- ---- escapes

abbrev with_rest : List ℕ → Option ℕ → Option Rest
with_rest rest o = option_map (λ c. (c, rest)) o

numbered_there : (digits rest : List ℕ) (c : ℕ) → IsCharacterNumber digits c → numbered_at (123 ∷ (digits ++ (125 ∷ rest))) ≡ Some (c, rest)
unfolding numbered_at
numbered_there digits rest c h =
    let parts : cut 125 (digits ++ (125 ∷ rest)) ≡ Some (digits, rest) = cut_here 125 digits rest (all_hex digits h.numeral.1).1 in
    ap (λ (o : Option Parts). o >>= λ parts. with_rest parts.1 (character_of parts.0)) parts
    ∙ ap (with_rest rest) (number_there digits c h)

named_low : (letter c : ℕ) → named_escape letter ≡ Some c → (nat_lt letter 128 ≡ true) × ((letter == 117) ≡ false)
named_low letter c h = go (letter == 34) refl (letter == 92) refl (letter == 110) refl (letter == 114) refl (letter == 116) refl h
  where
    go : (p : Bool) → letter == 34 ≡ p → (q : Bool) → letter == 92 ≡ q → (r : Bool) → letter == 110 ≡ r → (s : Bool) → letter == 114 ≡ s → (t : Bool) → letter == 116 ≡ t
        → (if p then Some 34 else (if q then Some 92 else (if r then Some 10 else (if s then Some 13 else (if t then Some 9 else None))))) ≡ Some c
        → (nat_lt letter 128 ≡ true) × ((letter == 117) ≡ false)
    go true e q f r g s i t j h = (grind (arith, nat_tests), grind (arith, nat_tests))
    go false e true f r g s i t j h = (grind (arith, nat_tests), grind (arith, nat_tests))
    go false e false f true g s i t j h = (grind (arith, nat_tests), grind (arith, nat_tests))
    go false e false f false g true i t j h = (grind (arith, nat_tests), grind (arith, nat_tests))
    go false e false f false g false i true j h = (grind (arith, nat_tests), grind (arith, nat_tests))
    go false e false f false g false i false j h = absurd (cc)

named_there : (letter c : ℕ) (rest : List ℕ) → named_escape letter ≡ Some c → escape_at (letter ∷ rest) ≡ Some (c, rest)
unfolding escape_at
named_there letter c rest h = low (nat_lt letter 128) (named_low letter c h).0 ∙ other (letter == 117) (named_low letter c h).1
  where
    low : (x : Bool) → x ≡ true
        → ((let o : Option Rest = (if x then Some (letter, rest) else None) in o) >>= λ first. if first.0 == 117 then numbered_at first.1 else with_rest first.1 (named_escape first.0))
        ≡ (if letter == 117 then numbered_at rest else with_rest rest (named_escape letter))
    low true e = refl
    low false e = absurd (cc)

    other : (y : Bool) → y ≡ false → (if y then numbered_at rest else with_rest rest (named_escape letter)) ≡ Some (c, rest)
    other true e = absurd (cc)
    other false e = ap (with_rest rest) h

pub escape_there : (spelled : List ℕ) (c : ℕ) (rest : List ℕ) → IsEscape spelled c → escape_at (spelled ++ rest) ≡ Some (c, rest)
unfolding escape_at
escape_there spelled c rest (inl named) = ap (λ s. escape_at (s ++ rest)) named.spelled_so ∙ named_there named.letter c rest named.named
escape_there spelled c rest (inr number) =
    ap (λ s. escape_at (s ++ rest)) number.spelled_so
    ∙ ap (λ s. numbered_at (123 ∷ s)) (append_assoc number.digits (125 ∷ []) rest)
    ∙ numbered_there number.digits rest c number.number

-- what is read behind `\` is an escape
abbrev Escaped : List ℕ → Rest → Type 0
Escaped text x = (spelled : List ℕ) × IsEscape spelled x.0 × (text ≡ spelled ++ x.1)

first_found : (text : List ℕ) (x : Rest) → first_at text ≡ Some x → text ≡ x.0 ∷ x.1
first_found [] x h = absurd (cc)
first_found (b ∷ bs) x h = go (nat_lt b 128) h
  where
    go : (t : Bool) → (if t then Some (b, bs) else None) ≡ Some x → b ∷ bs ≡ x.0 ∷ x.1
    go true h = let is : (let y : Rest = (b, bs) in y) ≡ x = cc in ap (λ (y : Rest). y.0 ∷ y.1) is
    go false h = absurd (cc)

numbered_found : (text : List ℕ) (x : Rest) → numbered_at text ≡ Some x → (digits : List ℕ) × IsCharacterNumber digits x.0 × (text ≡ 123 ∷ (digits ++ (125 ∷ x.1)))
unfolding numbered_at
numbered_found text x h = go (first_at text) refl h
  where
    Numbered : List ℕ → Rest → Type 0
    Numbered text x = (digits : List ℕ) × IsCharacterNumber digits x.0 × (text ≡ digits ++ (125 ∷ x.1))

    third : (text : List ℕ) (parts : Parts) → text ≡ parts.0 ++ (125 ∷ parts.1) → (o : Option ℕ) → character_of parts.0 ≡ o → with_rest parts.1 o ≡ Some x → Numbered text x
    third text parts e None f h = absurd (cc)
    third text parts e (Some c) f h =
        let is : (let y : Rest = (c, parts.1) in y) ≡ x = cc in
        subst (Numbered text) is (parts.0, number_found parts.0 c f, e)

    second : (text : List ℕ) (o : Option Parts) → cut 125 text ≡ o → (o >>= λ parts. with_rest parts.1 (character_of parts.0)) ≡ Some x → Numbered text x
    second text None e h = absurd (cc)
    second text (Some parts) e h = third text parts (cut_found 125 text parts.0 parts.1 e).0 (character_of parts.0) refl h

    tested : (f : Rest) → text ≡ f.0 ∷ f.1 → (t : Bool) → f.0 == 123 ≡ t → (if t then (cut 125 f.1 >>= λ parts. with_rest parts.1 (character_of parts.0)) else None) ≡ Some x
        → (digits : List ℕ) × IsCharacterNumber digits x.0 × (text ≡ 123 ∷ (digits ++ (125 ∷ x.1)))
    tested f e true i h =
        let number = second f.1 (cut 125 f.1) refl h in
        (number.0, number.1, e ∙ ap (λ b. b ∷ f.1) (eqb-true f.0 123 i) ∙ ap (λ xs. 123 ∷ xs) number.2)
    tested f e false i h = absurd (cc)

    go : (o : Option Rest) → first_at text ≡ o → (o >>= λ first. if first.0 == 123 then (cut 125 first.1 >>= λ parts. with_rest parts.1 (character_of parts.0)) else None) ≡ Some x
        → (digits : List ℕ) × IsCharacterNumber digits x.0 × (text ≡ 123 ∷ (digits ++ (125 ∷ x.1)))
    go None e h = absurd (cc)
    go (Some f) e h = tested f (first_found text f e) (f.0 == 123) refl h

pub escape_found : (text : List ℕ) (x : Rest) → escape_at text ≡ Some x → Escaped text x
unfolding escape_at
escape_found text x h = go (first_at text) refl h
  where
    named : (f : Rest) → text ≡ f.0 ∷ f.1 → (o : Option ℕ) → named_escape f.0 ≡ o → with_rest f.1 o ≡ Some x → Escaped text x
    named f e None g h = absurd (cc)
    named f e (Some c) g h =
        let is : (let y : Rest = (c, f.1) in y) ≡ x = cc in
        subst (Escaped text) is (f.0 ∷ [], inl (record { letter = f.0; spelled_so = refl; named = g }), e)

    tested : (f : Rest) → text ≡ f.0 ∷ f.1 → (t : Bool) → f.0 == 117 ≡ t → (if t then numbered_at f.1 else with_rest f.1 (named_escape f.0)) ≡ Some x → Escaped text x
    tested f e true i h =
        let number = numbered_found f.1 x h in (
          numbered number.0,
          inr (record { digits = number.0; spelled_so = refl; number = number.1 }),
          e ∙ ap (λ b. b ∷ f.1) (eqb-true f.0 117 i) ∙ ap (λ xs. 117 ∷ xs) number.2 ∙ ap (λ xs. 117 ∷ 123 ∷ xs) (sym (append_assoc number.0 (125 ∷ []) x.1)),
        )
    tested f e false i h = named f e (named_escape f.0) refl h

    go : (o : Option Rest) → first_at text ≡ o → (o >>= λ first. if first.0 == 117 then numbered_at first.1 else with_rest first.1 (named_escape first.0)) ≡ Some x → Escaped text x
    go None e h = absurd (cc)
    go (Some f) e h = tested f (first_found text f e) (f.0 == 117) refl h

-- ---- pieces

plain_tests : (b : ℕ) → is_plain b ≡ true → ((b == 92) ≡ false) × ((b == 34) ≡ false)
plain_tests b h = (grind (arith, nat_tests), grind (arith, nat_tests))

tests_plain : (b : ℕ) → b == 92 ≡ false → b == 34 ≡ false → is_plain b ≡ true
tests_plain b e f = grind (arith, nat_tests)

pieces_read : (pieces : List Piece) → AllByRecursion IsPiece pieces → text_in (flat_map spelling pieces) ≡ Some (flat_map meaning pieces)
pieces_read [] h = text_empty
pieces_read (Itself b ∷ pieces) h =
    let tests = plain_tests b h.0 in
    text_plain b (flat_map spelling pieces) tests.0 tests.1 ∙ ap (option_map (λ text. b ∷ text)) (pieces_read pieces h.1)
pieces_read (Escape spelled c ∷ pieces) h =
    text_escape (spelled ++ flat_map spelling pieces) (c, flat_map spelling pieces) (escape_there spelled c (flat_map spelling pieces) h.0)
    ∙ ap (option_map (λ text. encode_utf8 c ++ text)) (pieces_read pieces h.1)

pub inside_there : (inside text : List ℕ) → IsInside inside text → text_in inside ≡ Some text
inside_there inside text h = ap text_in h.spelled_so ∙ pieces_read h.pieces h.are_pieces ∙ ap Some (sym h.meant)

no_pieces : (text : List ℕ) → Some (let none : List ℕ = [] in none) ≡ Some text → IsInside [] text
no_pieces text h = let is : [] ≡ text = cc in record { pieces = []; are_pieces = tt; spelled_so = refl; meant = sym is }

one_more : (b : ℕ) (bs text : List ℕ) → b == 92 ≡ false → b == 34 ≡ false → IsInside bs text → IsInside (b ∷ bs) (b ∷ text)
one_more b bs text e f h = record {
  pieces = Itself b ∷ h.pieces;
  are_pieces = (tests_plain b e f, h.are_pieces);
  spelled_so = ap (λ xs. b ∷ xs) h.spelled_so;
  meant = ap (λ xs. b ∷ xs) h.meant;
}

one_escape : (bs : List ℕ) (x : Rest) (text : List ℕ) → Escaped bs x → IsInside x.1 text → IsInside (92 ∷ bs) (encode_utf8 x.0 ++ text)
one_escape bs x text e h = record {
  pieces = Escape e.0 x.0 ∷ h.pieces;
  are_pieces = (e.1, h.are_pieces);
  spelled_so = ap (λ xs. 92 ∷ xs) (e.2 ∙ ap (λ xs. e.0 ++ xs) h.spelled_so);
  meant = ap (λ xs. encode_utf8 x.0 ++ xs) h.meant;
}

inside_by : (n : ℕ) (inside text : List ℕ) → text_by n inside ≡ Some text → IsInside inside text
inside_by zero [] text h = no_pieces text h
inside_by zero (b ∷ bs) text h = absurd (cc)
inside_by (suc n) [] text h = no_pieces text h
inside_by (suc n) (b ∷ bs) text h = go (inside_by n) (b == 92) refl (b == 34) refl h
  where
    Reads : Type 0
    Reads = (inside text : List ℕ) → text_by n inside ≡ Some text → IsInside inside text

    plain : Reads → b == 92 ≡ false → b == 34 ≡ false → (o : Option (List ℕ)) → text_by n bs ≡ o → option_map (λ text. b ∷ text) o ≡ Some text → IsInside (b ∷ bs) text
    plain read e f None g h = absurd (cc)
    plain read e f (Some rest) g h = let is : b ∷ rest ≡ text = cc in subst (IsInside (b ∷ bs)) is (one_more b bs rest e f (read bs rest g))

    more : Reads → (x : Rest) → escape_at bs ≡ Some x → (o : Option (List ℕ)) → text_by n x.1 ≡ o → option_map (λ text. encode_utf8 x.0 ++ text) o ≡ Some text → IsInside (92 ∷ bs) text
    more read x e None g h = absurd (cc)
    more read x e (Some rest) g h = let is : encode_utf8 x.0 ++ rest ≡ text = cc in subst (IsInside (92 ∷ bs)) is (one_escape bs x rest (escape_found bs x e) (read x.1 rest g))

    escaped : Reads → (o : Option Rest) → escape_at bs ≡ o → (o >>= λ e. option_map (λ text. encode_utf8 e.0 ++ text) (text_by n e.1)) ≡ Some text → IsInside (92 ∷ bs) text
    escaped read None e h = absurd (cc)
    escaped read (Some x) e h = more read x e (text_by n x.1) refl h

    go : Reads → (x : Bool) → b == 92 ≡ x → (y : Bool) → b == 34 ≡ y
        → (if x then (escape_at bs >>= λ e. option_map (λ text. encode_utf8 e.0 ++ text) (text_by n e.1)) else (if y then None else option_map (λ text. b ∷ text) (text_by n bs))) ≡ Some text
        → IsInside (b ∷ bs) text
    go read true e y f h = subst (λ b. IsInside (b ∷ bs) text) (sym (eqb-true b 92 e)) (escaped read (escape_at bs) refl h)
    go read false e true f h = absurd (cc)
    go read false e false f h = plain read e f (text_by n bs) refl h

pub inside_found : (inside text : List ℕ) → text_in inside ≡ Some text → IsInside inside text
unfolding text_in
inside_found inside text h = inside_by (length inside) inside text h

-- ---- literals

pub literal_there : (literal text : List ℕ) → IsQuoted literal text → literal_text literal ≡ Some text
unfolding literal_text inside_of
literal_there literal text h =
    ap literal_text h.literal_is ∙ ap (λ (o : Option (List ℕ)). o >>= text_in) (last_here 34 h.inside) ∙ inside_there h.inside text h.inside_is

pub literal_found : (literal text : List ℕ) → literal_text literal ≡ Some text → IsQuoted literal text
unfolding literal_text inside_of
literal_found literal text h = go (first_at literal) refl h
  where
    last : (bs : List ℕ) (o : Option (List ℕ)) → before_last 34 bs ≡ o → (o >>= text_in) ≡ Some text → IsQuoted (34 ∷ bs) text
    last bs None e h = absurd (cc)
    last bs (Some inside) e h = record { inside = inside; literal_is = ap (λ xs. 34 ∷ xs) (last_found 34 bs inside e); inside_is = inside_found inside text h }

    tested : (f : Rest) → literal ≡ f.0 ∷ f.1 → (t : Bool) → f.0 == 34 ≡ t → ((let o : Option (List ℕ) = (if t then before_last 34 f.1 else None) in o) >>= text_in) ≡ Some text → IsQuoted literal text
    tested f e true i h = subst (λ l. IsQuoted l text) (sym (e ∙ ap (λ b. b ∷ f.1) (eqb-true f.0 34 i))) (last f.1 (before_last 34 f.1) refl h)
    tested f e false i h = absurd (cc)

    go : (o : Option Rest) → first_at literal ≡ o → ((o >>= λ first. if first.0 == 34 then before_last 34 first.1 else None) >>= text_in) ≡ Some text → IsQuoted literal text
    go None e h = absurd (cc)
    go (Some f) e h = tested f (first_found literal f e) (f.0 == 34) refl h

-- a literal spells one text
pub one_text : (literal a b : List ℕ) → IsQuoted literal a → IsQuoted literal b → a ≡ b
one_text literal a b h k = let same : Some a ≡ Some b = sym (literal_there literal a h) ∙ literal_there literal b k in cc

-- ---- read by its inside

pub literal_missing : (literal text : List ℕ) → None ≡ literal_text literal → IsQuoted literal text → ⊥
literal_missing literal text e h = absurd (let gone : None ≡ Some text = e ∙ literal_there literal text h in cc)

pub back_ok : (literal inside : List ℕ) (r : Result (List ℕ) LineFault) → text_in inside ≡ literal_text literal → Gives (λ text. text) r (text_in inside) → IfOk r (λ text. IsQuoted literal text)
back_ok literal inside (Ok text) e h = literal_found literal text (sym e ∙ h)
back_ok literal inside (Err fault) e h = tt

pub back_syntax : (literal inside : List ℕ) (r : Result (List ℕ) LineFault) → text_in inside ≡ literal_text literal → Gives (λ text. text) r (text_in inside) → r ≡ Err faults.Syntax → (text : List ℕ) → IsQuoted literal text → ⊥
back_syntax literal inside (Ok text) e h refused = absurd (cc)
back_syntax literal inside (Err faults.Syntax) e h refused = λ text q. literal_missing literal text (sym h ∙ e) q
back_syntax literal inside (Err faults.Memory) e h refused = absurd (cc)

pub back_refused : (literal inside : List ℕ) (r : Result (List ℕ) LineFault) → text_in inside ≡ literal_text literal → is_some (text_in inside) ≡ true → ((text : List ℕ) → IsQuoted literal text → ⊥) → r ≡ Err faults.Syntax
back_refused literal inside r e some none = go (text_in inside) refl some
  where
    go : (o : Option (List ℕ)) → text_in inside ≡ o → is_some o ≡ true → r ≡ Err faults.Syntax
    go None f s = absurd (cc)
    go (Some text) f s = absurd (none text (literal_found literal text (sym e ∙ f)))
