-- How a number is printed.
use Rattle.std.specs.Prelude.{◌≡◌, ℕ, zero, suc, ◌+◌, ◌*◌, ◌/◌, ◌%◌, ◌^◌, ◌<◌, ◌==◌, List, [], ◌∷◌, ◌++◌, length, Option, Some, None, ℤ, pos, negsuc, ◌<ℤ◌, decimal, unsigned_abs, if◌then◌else◌}
use Rattle.form_decimal.specs.Bytes.{hyphen, digit_zero}
use Rattle.form_decimal.specs.declared.spelling.Sign.TheVariants.{Minus}
use Rattle.form_decimal.specs.Numeral.{IsValidNumber, places, point_text}

-- The printed form of n: a valid number that reads back as n, without exponent; `-` only where n is below 0; a whole
-- part that is `0` or begins with another digit; no `0` at the end of the fraction, and so no point without digits.
pub record IsPrinted (n : ℤ) (text : List ℕ) : Type 0 where
  pub reads_back : IsValidNumber text n
  pub no_exponent : reads_back.numeral.exponent ≡ None
  pub minus_if_negative : reads_back.numeral.sign ≡ Some Minus → n <ℤ pos 0
  pub some_whole : 0 < length reads_back.numeral.whole
  pub no_zero_before : (ds : List ℕ) → reads_back.numeral.whole ≡ digit_zero ∷ ds → ds ≡ []
  pub no_zero_behind : (ds : List ℕ) → places reads_back.numeral.fraction ≡ ds ++ (digit_zero ∷ []) → ⊥

-- ---- the same digit by digit

-- the digits of rest / 10^12 up to the last that is no zero, at most so many
unfoldable pub fraction_digits : ℕ → ℕ → List ℕ
fraction_digits zero rest = []
fraction_digits (suc count) rest =
    if rest == 0 then []
    else (digit_zero + rest * 10 / 10 ^ 12) ∷ fraction_digits count (rest * 10 % 10 ^ 12)

-- a point stands only before digits
abbrev pub fraction_of : List ℕ → Option (List ℕ)
fraction_of [] = None
fraction_of (d ∷ ds) = Some (d ∷ ds)

-- `-` in front of a number below 0
abbrev pub minus_text : ℤ → List ℕ
minus_text (pos m) = []
minus_text (negsuc m) = hyphen ∷ []

-- the text before the point
abbrev pub whole_text : ℤ → List ℕ
whole_text n = minus_text n ++ decimal (unsigned_abs n / 10 ^ 12)

abbrev pub printed : ℤ → List ℕ
printed n = whole_text n ++ point_text (fraction_of (fraction_digits 12 (unsigned_abs n % 10 ^ 12)))
