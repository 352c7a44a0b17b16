-- Valid month strings (HTML, "Months").
use Rattle.std.specs.Prelude.{◌≡◌, ℕ, ◌+◌, ◌/◌, ◌%◌, ◌&&◌, nat_lt, nat_le, ◌≤◌, List, ℤ, pos, negsuc, ◌+ℤ◌, ◌-ℤ◌, ◌*ℤ◌, Option, Some, None, option_and_then, if◌then◌else◌, codes}
use Rattle.std.specs.Int.{IsInRange}
use Rattle.form_calendar.specs.Digits.{IsPair, pair_text}
use Rattle.form_calendar.specs.Reading.{whole_pair}

-- `YYYY-MM`
abbrev pub IsMonthText : List ℕ → ℕ → ℕ → Type 0
IsMonthText = IsPair 4 (codes "-")

-- the months from January 1970 to this one
abbrev pub months_from_1970 : ℕ → ℕ → ℤ
months_from_1970 year month = (pos year -ℤ pos 1970) *ℤ pos 12 +ℤ (pos month -ℤ pos 1)

-- A valid month string: a year from 1 on in four digits, `-`, and a month from 1 to 12 in two
-- (HTML, "valid month string"). Its number counts the months from January 1970.
pub record IsValidMonth (text : List ℕ) (n : ℤ) : Type 0 where
  pub year : ℕ
  pub month : ℕ
  pub spelled : IsMonthText text year month
  pub from_year_one : 1 ≤ year
  pub month_in : IsInRange 1 12 month
  pub number : n ≡ months_from_1970 year month

-- the number of a year and month, where there is one
unfoldable pub month_number_of : ℕ → ℕ → Option ℤ
month_number_of year month =
    if nat_le 1 year && (nat_le 1 month && nat_le month 12)
    then Some (months_from_1970 year month) else None

-- the number of a valid month string, read from the left
unfoldable pub month_number : List ℕ → Option ℤ
month_number text = option_and_then (λ p. month_number_of p.0 p.1) (whole_pair (codes "-") text)

-- the text of a year and month
abbrev pub year_month_text : ℕ → ℕ → List ℕ
year_month_text = pair_text 4 (codes "-")

-- the text of so many months from January of the year 0
unfoldable pub months_text : ℤ → Option (List ℕ)
months_text (pos k) =
    if nat_le 12 k && nat_lt k 120000 then Some (year_month_text (k / 12) (k % 12 + 1)) else None
months_text (negsuc k) = None

-- the valid month string of the number, where there is one: 1970 begins 23,640 months after the year 0
abbrev pub month_text : ℤ → Option (List ℕ)
month_text n = months_text (n +ℤ pos 23640)
