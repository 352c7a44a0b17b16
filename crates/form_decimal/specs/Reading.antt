-- The number of a text as a function.
use Rattle.std.specs.Prelude.{ℕ, ◌+◌, ◌*◌, ◌/◌, ◌%◌, ◌^◌, ◌&&◌, ◌==◌, nat_le, List, length, Option, Some, None, ℤ, if◌then◌else◌, option_and_then}
use Rattle.form_decimal.specs.Numeral.{Numeral, coefficient, places, raised_by, lowered_by, is_minus, signed, behind_whitespace}
use Rattle.form_decimal.specs.Spelling.{numeral_front, is_valid}

abbrev pub over : Numeral → ℕ
over n = coefficient n * 10 ^ (raised_by n.exponent + 12)

abbrev pub under : Numeral → ℕ
under n = 10 ^ (length (places n.fraction) + lowered_by n.exponent)

-- the number that a numeral means, if it is one
unfoldable pub meant : Numeral → Option ℤ
meant n =
    if (over n % under n == 0) && nat_le (over n / under n) (10 ^ 29)
    then Some (signed (is_minus n.sign) (over n / under n)) else None

-- of the numeral in front, where nothing is left behind it and it is valid
abbrev pub meant_alone : Numeral × List ℕ → Option ℤ
meant_alone x = if (length x.1 == 0) && is_valid x.0 then meant x.0 else None

abbrev pub meant_front : Numeral × List ℕ → Option ℤ
meant_front x = meant x.0

unfoldable pub valid_number : List ℕ → Option ℤ
valid_number text = option_and_then meant_alone (numeral_front text)

unfoldable pub lenient_number : List ℕ → Option ℤ
lenient_number text = option_and_then meant_front (numeral_front (behind_whitespace text))
