use Rattle.std.specs.Prelude.{ℕ, ℤ, pos, negsuc, neg_ℤ, min, ◌==◌, List, [], ◌∷◌, length, Option, None, Some, if◌then◌else◌}
use Rattle.std.specs.Char.{is_ascii_digit}
use Rattle.std.specs.List.{take_while}
use Rattle.std.specs.Option.{option_map, option_and_then}
use Rattle.std.specs.Str.Parse.{digits_value}
use Rattle.form_text.specs.Bytes.{hyphen, plus_sign}
use Rattle.form_text.specs.Whitespace.{without_leading_whitespace}

-- the whole number of the longest run of digits at the front; an error where there is no digit
abbrev pub leading_number : List ℕ → Option ℕ
leading_number text =
    if length (take_while is_ascii_digit text) == 0 then None
    else Some (digits_value 10 (take_while is_ascii_digit text))

-- the number behind an optional sign
abbrev pub signed_number : List ℕ → Option ℤ
signed_number [] = None
signed_number (c ∷ rest) =
    if c == hyphen then option_map (λ n. neg_ℤ (pos n)) (leading_number rest)
    else option_map pos (leading_number (if c == plus_sign then rest else c ∷ rest))

-- Rules for parsing integers (HTML, "Signed integers"): a number of any size, or an error.
abbrev pub integer : List ℕ → Option ℤ
integer text = signed_number (without_leading_whitespace text)

-- the greatest number that is kept; a greater one is read as it
abbrev pub most : ℕ
most = 4_294_967_295

-- an integer that is not below 0, kept up to that number; a negative one is an error
abbrev pub not_negative : ℤ → Option ℕ
not_negative (pos n) = Some (min n most)
not_negative (negsuc n) = None

-- Rules for parsing non-negative integers (HTML, "Non-negative integers"): an integer that is not
-- negative, read as 4,294,967,295 where it is greater; `-0` is 0.
abbrev pub non_negative_integer : List ℕ → Option ℕ
non_negative_integer text = option_and_then not_negative (integer text)
