-- Reading from the left: what the relations of spelled texts find in a text, as functions on lists (the laws of
-- proofs/ReadingLaws and proofs/LiteralLaws).
use Rattle.std.specs.Char.{encode_utf8, is_ascii_alphabetic, is_ascii_digit, is_ascii_hexdigit, to_ascii_lowercase}
use Rattle.std.specs.List.{list_all}
use Rattle.std.specs.Prelude.{Bool, List, None, Option, Some, [], codes, false, if◌then◌else◌, length, map, nat_le, nat_lt, option_map, true, suc, zero, ℕ, ◌&&◌, ◌++◌, ◌==◌, ◌∷◌}
use Rattle.std.specs.Str.Parse.{digits_value}
use Rattle.std.specs.Str.{bytes_eq}
use Rattle.form_text.specs.Bytes.{quote}
use Rattle.form_tree.specs.declared.node.Key.{Key}
use Rattle.form_script.specs.Bytes.{backslash, commercial_at, left_brace, lower_u, right_brace, zero_digit}
use Rattle.form_script.specs.Quoted.{is_scalar, most_digits, named_escape}
use Rattle.form_script.specs.Words.{greatest_number, is_name_byte, longest_boundary, longest_name}

-- one reader after another
infixl 10 ◌>>=◌
abbrev pub ◌>>=◌ : {A B : Type 0} → Option A → (A → Option B) → Option B
(Some x) >>= f = f x
None >>= f = None

-- what stands before the first such byte, and what stands behind it
abbrev pub cut : ℕ → List ℕ → Option (List ℕ × List ℕ)
cut mark [] = None
cut mark (b ∷ bs) = if b == mark then Some ([], bs) else option_map (λ parts. (b ∷ parts.0, parts.1)) (cut mark bs)

-- the first byte, where it is an ASCII character, and what stands behind it
abbrev pub first_at : List ℕ → Option (ℕ × List ℕ)
first_at [] = None
first_at (b ∷ bs) = if nat_lt b 128 then Some (b, bs) else None

-- what stands before a last byte
abbrev pub before_last : ℕ → List ℕ → Option (List ℕ)
before_last mark [] = None
before_last mark (b ∷ []) = if b == mark then Some [] else None
before_last mark (b ∷ c ∷ bs) = option_map (λ front. b ∷ front) (before_last mark (c ∷ bs))

-- ---- literals

-- one to six hexadecimal digits
abbrev pub is_hexadecimal : List ℕ → Bool
is_hexadecimal digits = nat_lt 0 (length digits) && (nat_le (length digits) most_digits && list_all is_ascii_hexdigit digits)

-- the character of a number
abbrev pub character_at : ℕ → Option ℕ
character_at number = if is_scalar number then Some number else None

-- the character that digits write the number of
unfoldable pub character_of : List ℕ → Option ℕ
character_of digits = if is_hexadecimal digits then character_at (digits_value 16 digits) else None

-- what stands behind `\u`: a character, and what stands behind its `}`
unfoldable pub numbered_at : List ℕ → Option (ℕ × List ℕ)
numbered_at text =
    first_at text >>= λ first. if first.0 == left_brace
    then (cut right_brace first.1 >>= λ parts. option_map (λ c. (c, parts.1)) (character_of parts.0)) else None

-- what stands behind `\`
unfoldable pub escape_at : List ℕ → Option (ℕ × List ℕ)
escape_at text =
    first_at text >>= λ first. if first.0 == lower_u then numbered_at first.1
    else option_map (λ c. (c, first.1)) (named_escape first.0)

-- the text that pieces stand for, one behind another; each takes a byte at least
abbrev pub text_by : ℕ → List ℕ → Option (List ℕ)
text_by zero [] = Some []
text_by zero (b ∷ bs) = None
text_by (suc n) [] = Some []
text_by (suc n) (b ∷ bs) =
    if b == backslash then (escape_at bs >>= λ e. option_map (λ text. encode_utf8 e.0 ++ text) (text_by n e.1))
    else (if b == quote then None else option_map (λ text. b ∷ text) (text_by n bs))

unfoldable pub text_in : List ℕ → Option (List ℕ)
text_in inside = text_by (length inside) inside

-- what stands between the quotes of a literal
unfoldable pub inside_of : List ℕ → Option (List ℕ)
inside_of literal = first_at literal >>= λ first. if first.0 == quote then before_last quote first.1 else None

-- the text of a literal
unfoldable pub literal_text : List ℕ → Option (List ℕ)
literal_text literal = inside_of literal >>= text_in

-- ---- words

-- `0` with a digit behind it
abbrev pub leads_with_zero : List ℕ → Bool
leads_with_zero [] = false
leads_with_zero (b ∷ []) = false
leads_with_zero (b ∷ c ∷ bs) = b == zero_digit

abbrev pub is_numeral : List ℕ → Bool
is_numeral text =
    if length text == 0 then false else (if leads_with_zero text then false else list_all is_ascii_digit text)

abbrev pub within : ℕ → Option ℕ
within n = if nat_le n greatest_number then Some n else None

unfoldable pub number_of : List ℕ → Option ℕ
number_of text = if is_numeral text then within (digits_value 10 text) else None

abbrev pub positive : ℕ → Option ℕ
positive n = if n == 0 then None else Some n

unfoldable pub positive_of : List ℕ → Option ℕ
positive_of text = number_of text >>= positive

unfoldable pub key_of : List ℕ → Option Key
key_of text =
    first_at text >>= λ first. if first.0 == commercial_at
    then (positive_of first.1 >>= λ n. Some (record { 0 = n })) else None

abbrev pub begins_name : List ℕ → Bool
begins_name [] = false
begins_name (b ∷ bs) = is_ascii_alphabetic b && list_all is_name_byte bs

abbrev pub is_name : List ℕ → Bool
is_name text = nat_le (length text) longest_name && begins_name text

unfoldable pub name_of : List ℕ → Option (List ℕ)
name_of text = if is_name text then Some (map to_ascii_lowercase text) else None

unfoldable pub mark_of : List ℕ → Option Bool
mark_of text = if bytes_eq text (codes "yes") then Some true else (if bytes_eq text (codes "no") then Some false else None)

abbrev pub is_boundary : List ℕ → Bool
is_boundary text =
    if length text == 0 then false
    else (if nat_le (length text) longest_boundary then list_all is_name_byte text else false)

abbrev pub boundary_if : List ℕ → Option (List ℕ)
boundary_if text = if is_boundary text then Some text else None

unfoldable pub boundary_of : List ℕ → Option (List ℕ)
boundary_of literal = literal_text literal >>= boundary_if
