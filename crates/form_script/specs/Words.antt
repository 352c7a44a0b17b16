-- The parts of a line of a script: numbers, keys, names, marks and boundaries.
use Rattle.std.specs.Char.{is_ascii_alphabetic, is_ascii_alphanumeric, to_ascii_lowercase}
use Rattle.std.specs.Fmt.{decimal}
use Rattle.std.specs.List.{list_all}
use Rattle.std.specs.Prelude.{Bool, List, length, map, true, ℕ, ◌<◌, ◌==◌, ◌||◌, ◌∷◌, ◌≡◌, ◌≤◌}
use Rattle.form_text.specs.Bytes.{hyphen}
use Rattle.form_tree.specs.declared.node.Key.{Key}
use Rattle.form_script.specs.Bytes.{commercial_at, low_line}
use Rattle.form_script.specs.Printed.{yes_or_no}
use Rattle.form_script.specs.Quoted.{IsQuoted}

-- the greatest number of a script
abbrev pub greatest_number : ℕ
greatest_number = 4_294_967_295

-- the most bytes of an attribute's name in a script
abbrev pub longest_name : ℕ
longest_name = 64

-- the most bytes of a boundary (RFC 2046, "Common Syntax")
abbrev pub longest_boundary : ℕ
longest_boundary = 70

-- a number in decimal digits without leading zeros, as it is printed
pub record IsNumber (text : List ℕ) (n : ℕ) : Type 0 where
  pub written : text ≡ decimal n
  pub bound : n ≤ greatest_number

-- a number from 1 on
pub record IsPositive (text : List ℕ) (n : ℕ) : Type 0 where
  pub number : IsNumber text n
  pub from_one : 0 < n

-- a key: `@` and its number
pub record IsKey (text : List ℕ) (key : Key) : Type 0 where
  pub digits : List ℕ
  pub text_is : text ≡ commercial_at ∷ digits
  pub number_is : IsPositive digits key.0

-- an ASCII letter, an ASCII digit, `-` or `_`
abbrev pub is_name_byte : ℕ → Bool
is_name_byte b = is_ascii_alphanumeric b || ((b == hyphen) || (b == low_line))

-- the name of an attribute: a letter and then name bytes, which name it in any letter case
pub record IsName (text name : List ℕ) : Type 0 where
  pub first : ℕ
  pub others : List ℕ
  pub text_is : text ≡ first ∷ others
  pub letter : is_ascii_alphabetic first ≡ true
  pub name_bytes : list_all is_name_byte others ≡ true
  pub short : length text ≤ longest_name
  pub lower_cased : name ≡ map to_ascii_lowercase text

-- `yes` or `no`
abbrev pub IsMark : List ℕ → Bool → Type 0
IsMark text mark = text ≡ yes_or_no mark

-- a text literal of a boundary: name bytes
pub record IsBoundary (literal boundary : List ℕ) : Type 0 where
  pub quoted : IsQuoted literal boundary
  pub name_bytes : list_all is_name_byte boundary ≡ true
  pub some : 0 < length boundary
  pub short : length boundary ≤ longest_boundary
