-- A printed text is written piece by piece, and read back by its pieces.
use Rattle.std.proofs.Common.{◌≡◌, ℕ, zero, suc, ◌+◌, ◌<◌, Bool, true, false, cond, List, [], ◌∷◌, ◌++◌, length, take, drop, get_or, Option, Some, None, option_map, map, inl, inr, ◌⊎◌, ◌≤◌, ◌^◌, ◌==◌, refl, sym, ap, ◌∙◌, arith, add-one, if◌then◌else◌}
use Rattle.std.specs.List.{flat_map, position}
use Rattle.std.specs.List.{AllByRecursion}
use Rattle.std.specs.Fmt.{digits}
use Rattle.std.specs.Str.Parse.{IsNumeral, digits_value}
use Rattle.std.proofs.lemmas.Bool.{cases_lt, eqb-true}
use Rattle.std.proofs.lemmas.Bool.Decides.{nat_tests}
use Rattle.std.proofs.lemmas.Fmt.{digits_is_IsNumeral, hex_one_digit, hex_two_digits}
use Rattle.std.proofs.lemmas.Str.Ascii.{encode_ascii}
use Rattle.std.proofs.lemmas.List.Quantifiers.{position-Some}
use Rattle.form_text.proofs.Laws.{position-cons}
use Rattle.form_script.specs.Quoted.{IsCharacterNumber, IsEscape, IsPiece, IsQuoted, Piece, Itself, Escape, escape, is_escaped, meaning, named_escape, numbered, quoted, shown, spelling}

-- a byte that is printed as itself, and one that is not
shown_kept : (b : ℕ) → is_escaped b ≡ false → shown b ≡ b ∷ []
shown_kept b h = ap (λ t. if t then 92 ∷ escape b else b ∷ []) h

shown_escaped : (b : ℕ) → is_escaped b ≡ true → shown b ≡ 92 ∷ escape b
shown_escaped b h = ap (λ t. if t then 92 ∷ escape b else b ∷ []) h

-- the first byte passes, or the place is one behind that in the rest
none_miss : (b : Bool) (o : Option ℕ) → cond b (Some 0) (option_map suc o) ≡ None → (b ≡ false) × (o ≡ None)
none_miss true o found = grind arith
none_miss false None found = (refl, refl)
none_miss false (Some n) found = grind arith

zero_hit : (b : Bool) (o : Option ℕ) → cond b (Some 0) (option_map suc o) ≡ Some 0 → b ≡ true
zero_hit true o found = refl
zero_hit false None found = cc
zero_hit false (Some n) found = grind arith

suc_miss : (b : Bool) (o : Option ℕ) (i : ℕ) → cond b (Some 0) (option_map suc o) ≡ Some (suc i) → (b ≡ false) × (o ≡ Some i)
suc_miss true o i found = grind arith
suc_miss false None i found = grind arith
suc_miss false (Some n) i found = (refl, grind arith)

-- a text that is printed as itself
pub all_kept : (text : List ℕ) → position is_escaped text ≡ None → flat_map shown text ≡ text
all_kept [] none = refl
all_kept (b ∷ text) none =
    let miss = none_miss _ _ (sym (position-cons is_escaped b text) ∙ none) in
    ap (λ x. x ++ flat_map shown text) (shown_kept b miss.0) ∙ ap (λ x. b ∷ x) (all_kept text miss.1)

first_escaped_suc : (text : List ℕ) (at : ℕ) → position is_escaped text ≡ Some at → flat_map shown text ≡ take at text ++ (92 ∷ (escape (get_or text at 0) ++ flat_map shown (drop (suc at) text)))
first_escaped_suc [] at found = grind arith
first_escaped_suc (b ∷ text) zero found = ap (λ x. x ++ flat_map shown text) (shown_escaped b (zero_hit _ _ (sym (position-cons is_escaped b text) ∙ found)))
first_escaped_suc (b ∷ text) (suc at) found =
    let miss = suc_miss _ _ _ (sym (position-cons is_escaped b text) ∙ found) in
    ap (λ x. x ++ flat_map shown text) (shown_kept b miss.0) ∙ ap (λ x. b ∷ x) (first_escaped_suc text at miss.1)

-- the text up to the first byte that is printed as its escape, the escape, and the rest
pub first_escaped : (text : List ℕ) (at : ℕ) → position is_escaped text ≡ Some at → flat_map shown text ≡ take at text ++ (92 ∷ (escape (get_or text at 0) ++ flat_map shown (drop (at + 1) text)))
first_escaped text at found = rw (add-one) (first_escaped_suc text at found)

-- the byte that was found is an ASCII byte of the text
pub escaped_here : (text : List ℕ) (at : ℕ) → position is_escaped text ≡ Some at → (at < length text) × (get_or text at 0 < 128) × (is_escaped (get_or text at 0) ≡ true)
escaped_here text at found =
    let here = position-Some is_escaped text at 0 found in
    let passes : is_escaped (get_or text at 0) ≡ true = here.1 in
    (here.0, grind (arith, nat_tests), passes)

-- ---- a printed text is read back

-- the number of a byte of ASCII, in hexadecimal
byte_number : (b : ℕ) → b < 128 → IsCharacterNumber (digits 16 false b) b
byte_number b low =
    let small : b < 16 ^ 64 = omega (arith, low) in
    let read : IsNumeral 16 (digits 16 false b) × (digits_value 16 (digits 16 false b) ≡ b) = digits_is_IsNumeral 16 false (omega arith) (omega arith) b small in
    record { numeral = read.0; short = short (cases_lt b 16); value = sym read.1; scalar = grind (arith, nat_tests) }
  where
    short : (b < 16) ⊎ (16 ≤ b) → length (digits 16 false b) ≤ 6
    short (inl lt) = rw (hex_one_digit false b lt) (omega arith)
    short (inr ge) = rw (hex_two_digits false b ge (omega arith)) (omega arith)

escape_read : (b : ℕ) → is_escaped b ≡ true → IsEscape (escape b) b
escape_read b h = go (b == 34) refl (b == 92) refl (b == 10) refl (b == 13) refl (b == 9) refl
  where
    named : (letter : ℕ) → named_escape letter ≡ Some b → IsEscape (letter ∷ []) b
    named letter e = inl (record { letter = letter; spelled_so = refl; named = e })

    go : (p : Bool) → b == 34 ≡ p → (q : Bool) → b == 92 ≡ q → (r : Bool) → b == 10 ≡ r → (s : Bool) → b == 13 ≡ s → (t : Bool) → b == 9 ≡ t
        → IsEscape (if p then 34 ∷ [] else (if q then 92 ∷ [] else (if r then 110 ∷ [] else (if s then 114 ∷ [] else (if t then 116 ∷ [] else numbered (digits 16 false b)))))) b
    go true e q f r g s i t j = named 34 (ap Some (sym (eqb-true b 34 e)))
    go false e true f r g s i t j = named 92 (ap Some (sym (eqb-true b 92 f)))
    go false e false f true g s i t j = named 110 (ap Some (sym (eqb-true b 10 g)))
    go false e false f false g true i t j = named 114 (ap Some (sym (eqb-true b 13 i)))
    go false e false f false g false i true j = named 116 (ap Some (sym (eqb-true b 9 j)))
    go false e false f false g false i false j = inr (record { digits = digits 16 false b; spelled_so = refl; number = byte_number b (grind (arith, nat_tests)) })

-- the piece that a byte is printed as
abbrev piece_of : ℕ → Piece
piece_of b = if is_escaped b then Escape (escape b) b else Itself b

is_piece : (b : ℕ) → IsPiece (piece_of b) × (spelling (piece_of b) ≡ shown b) × (meaning (piece_of b) ≡ b ∷ [])
is_piece b = go (is_escaped b) refl
  where
    go : (t : Bool) → is_escaped b ≡ t → let p = (if t then Escape (escape b) b else Itself b) in IsPiece p × (spelling p ≡ (if t then 92 ∷ escape b else b ∷ [])) × (meaning p ≡ b ∷ [])
    go true e = (escape_read b e, refl, encode_ascii b (grind (arith, nat_tests)))
    go false e = (grind (arith, nat_tests), refl, refl)

are_pieces : (text : List ℕ) → AllByRecursion IsPiece (map piece_of text) × (flat_map shown text ≡ flat_map spelling (map piece_of text)) × (text ≡ flat_map meaning (map piece_of text))
are_pieces [] = (tt, refl, refl)
are_pieces (b ∷ text) =
    let first = is_piece b in
    let more = are_pieces text in (
      (first.0, more.0),
      ap (λ x. x ++ flat_map shown text) (sym first.1) ∙ ap (λ x. spelling (piece_of b) ++ x) more.1,
      ap (λ x. b ∷ x) more.2 ∙ ap (λ x. x ++ flat_map meaning (map piece_of text)) (sym first.2),
    )

-- the printed text spells the text
pub quoted_back : (text : List ℕ) → IsQuoted (quoted text) text
quoted_back text =
    let all = are_pieces text in
    record { inside = flat_map shown text; literal_is = refl; inside_is = record { pieces = map piece_of text; are_pieces = all.0; spelled_so = all.1; meant = all.2 } }
