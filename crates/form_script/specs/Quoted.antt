-- Quoted texts: how a text may be spelled between quotes, and how it is printed.
use Rattle.std.specs.Char.{encode_utf8}
use Rattle.std.specs.Fmt.{digits}
use Rattle.std.specs.List.{AllByRecursion}
use Rattle.std.specs.Prelude.{Bool, List, None, false, true, Option, Some, [], flat_map, if◌then◌else◌, length, nat_le, nat_lt, not, ℕ, ◌&&◌, ◌++◌, ◌==◌, ◌||◌, ◌∷◌, ◌≡◌, ◌≤◌, ◌⊎◌}
use Rattle.std.specs.Str.Parse.{IsNumeral, digits_value}
use Rattle.form_text.specs.Bytes.{carriage_return, line_feed, quote}
use Rattle.form_script.specs.Bytes.{backslash, delete, first_shown, left_brace, lower_n, lower_r, lower_t, lower_u, right_brace, tab}

-- ---- how a text may be spelled

-- a byte that stands for itself: any but `"` and `\`
abbrev pub is_plain : ℕ → Bool
is_plain b = not ((b == quote) || (b == backslash))

-- the character that a letter stands for behind `\`: `"`, `\`, LF for `n`, CR for `r`, TAB for `t`
abbrev pub named_escape : ℕ → Option ℕ
named_escape letter =
    if letter == quote then Some quote
    else (if letter == backslash then Some backslash
    else (if letter == lower_n then Some line_feed
    else (if letter == lower_r then Some carriage_return
    else (if letter == lower_t then Some tab else None))))

-- a Unicode scalar value: no surrogate, and at most U+10FFFF
abbrev pub is_scalar : ℕ → Bool
is_scalar c = nat_lt c 0xD800 || (nat_le 0xE000 c && nat_le c 0x10_FFFF)

-- the most digits of a number of a character
abbrev pub most_digits : ℕ
most_digits = 6

-- one to six hexadecimal digits of a character's number
pub record IsCharacterNumber (digits : List ℕ) (c : ℕ) : Type 0 where
  pub numeral : IsNumeral 16 digits
  pub short : length digits ≤ most_digits
  pub value : c ≡ digits_value 16 digits
  pub scalar : is_scalar c ≡ true

-- what stands behind `\`: one letter for a character
pub record IsNamedEscape (spelled : List ℕ) (c : ℕ) : Type 0 where
  pub letter : ℕ
  pub spelled_so : spelled ≡ letter ∷ []
  pub named : named_escape letter ≡ Some c

-- or `u{`, the number of a character, and `}`
abbrev pub numbered : List ℕ → List ℕ
numbered digits = lower_u ∷ left_brace ∷ (digits ++ (right_brace ∷ []))

pub record IsNumberedEscape (spelled : List ℕ) (c : ℕ) : Type 0 where
  pub digits : List ℕ
  pub spelled_so : spelled ≡ numbered digits
  pub number : IsCharacterNumber digits c

abbrev pub IsEscape : List ℕ → ℕ → Type 0
IsEscape spelled c = IsNamedEscape spelled c ⊎ IsNumberedEscape spelled c

-- a piece of a quoted text: a byte for itself, or `\` and what spells a character
pub data Piece : Type 0 where
  Itself : (b : ℕ) → Piece
  Escape : (spelled : List ℕ) → (c : ℕ) → Piece

abbrev pub IsPiece : Piece → Type 0
IsPiece (Itself b) = is_plain b ≡ true
IsPiece (Escape spelled c) = IsEscape spelled c

-- how a piece is spelled
abbrev pub spelling : Piece → List ℕ
spelling (Itself b) = b ∷ []
spelling (Escape spelled c) = backslash ∷ spelled

-- what it stands for
abbrev pub meaning : Piece → List ℕ
meaning (Itself b) = b ∷ []
meaning (Escape spelled c) = encode_utf8 c

-- pieces, one behind another, that stand for the text
pub record IsInside (inside text : List ℕ) : Type 0 where
  pub pieces : List Piece
  pub are_pieces : AllByRecursion IsPiece pieces
  pub spelled_so : inside ≡ flat_map spelling pieces
  pub meant : text ≡ flat_map meaning pieces

-- The text literal spells the text: `"`, pieces, `"`.
pub record IsQuoted (literal text : List ℕ) : Type 0 where
  pub inside : List ℕ
  pub literal_is : literal ≡ quote ∷ (inside ++ (quote ∷ []))
  pub inside_is : IsInside inside text

-- ---- how a text is printed

-- a control character: below U+0020, or U+007F
abbrev pub is_control : ℕ → Bool
is_control b = nat_lt b first_shown || (b == delete)

-- a byte that is not printed as itself
abbrev pub is_escaped : ℕ → Bool
is_escaped b = (b == quote) || (b == backslash) || is_control b

-- the escape of such a byte, without its `\`: a letter where it has one, and else the number, in
-- lower-case hexadecimal without leading zeros
abbrev pub escape : ℕ → List ℕ
escape b =
    if b == quote then quote ∷ []
    else (if b == backslash then backslash ∷ []
    else (if b == line_feed then lower_n ∷ []
    else (if b == carriage_return then lower_r ∷ []
    else (if b == tab then lower_t ∷ [] else numbered (digits 16 false b)))))

-- a byte as it is printed
abbrev pub shown : ℕ → List ℕ
shown b = if is_escaped b then backslash ∷ escape b else b ∷ []

-- The text as it is printed: between quotes, each byte as itself or as its escape.
abbrev pub quoted : List ℕ → List ℕ
quoted text = quote ∷ (flat_map shown text ++ (quote ∷ []))
