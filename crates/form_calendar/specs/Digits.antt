-- Numbers written in a fixed number of digits.
use Rattle.std.specs.Prelude.{◌≡◌, ℕ, ◌-◌, List, ◌++◌, length, replicate}
use Rattle.std.specs.Fmt.{decimal}
use Rattle.std.specs.Str.Parse.{digits_value, AllDigits}
use Rattle.form_calendar.specs.Bytes.{digit_zero}

-- so many ASCII digits that write the number
pub record Writes (count : ℕ) (text : List ℕ) (n : ℕ) : Type 0 where
  pub long : length text ≡ count
  pub digits : AllDigits 10 text
  pub value : digits_value 10 text ≡ n

-- a number in so many digits, a separator, and a number in two digits
pub record IsPair (count : ℕ) (separator : List ℕ) (text : List ℕ) (first second : ℕ) : Type 0 where
  pub first_text : List ℕ
  pub second_text : List ℕ
  pub spelled : text ≡ first_text ++ (separator ++ second_text)
  pub first_is : Writes count first_text first
  pub second_is : Writes 2 second_text second

-- the number in decimal, with zeros in front up to the width
unfoldable pub padded : ℕ → ℕ → List ℕ
padded width n = replicate (width - length (decimal n)) digit_zero ++ decimal n

-- the text of two numbers with a separator between them
unfoldable pub pair_text : ℕ → List ℕ → ℕ → ℕ → List ℕ
pair_text count separator first second = padded count first ++ (separator ++ padded 2 second)
