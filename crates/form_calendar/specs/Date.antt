-- Valid date strings (HTML, "Dates").
use Rattle.std.specs.Prelude.{◌≡◌, ℕ, zero, suc, ◌+◌, ◌==◌, ◌&&◌, nat_le, int_lt, List, ◌∷◌, ◌++◌, length, ℤ, pos, ◌-ℤ◌, ◌*ℤ◌, ◌≤ℤ◌, unsigned_abs, Option, Some, None, option_and_then, option_map, if◌then◌else◌}
use Rattle.std.specs.Int.{int_div_euclid, int_rem_euclid}
use Rattle.jiff_core.specs.declared.civil.date.Date.{Date}
use Rattle.jiff_core.specs.Date.{epoch_day}
use Rattle.jiff_core.specs.Calendar.{days_from_civil, days_in_month}
use Rattle.form_calendar.specs.Bytes.{hyphen}
use Rattle.form_calendar.specs.Digits.{Writes, padded}
use Rattle.form_calendar.specs.Reading.{date_at}
use Rattle.form_calendar.specs.Month.{IsMonthText, year_month_text}

-- `YYYY-MM-DD`
pub record IsDateText (text : List ℕ) (year month day : ℕ) : Type 0 where
  pub month_text : List ℕ
  pub day_text : List ℕ
  pub spelled : text ≡ month_text ++ (hyphen ∷ day_text)
  pub month_is : IsMonthText month_text year month
  pub day_is : Writes 2 day_text day

-- A valid date string: the text of a day of the proleptic Gregorian calendar in a year from 1 on
-- (HTML, "valid date string"). Its number is the milliseconds from 1970-01-01 to its midnight.
pub record IsValidDate (text : List ℕ) (n : ℤ) : Type 0 where
  pub date : Date
  pub from_year_one : pos 1 ≤ℤ date.year
  pub spelled : IsDateText text (unsigned_abs date.year) date.month date.day
  pub number : n ≡ epoch_day date *ℤ pos 86_400_000

-- the day number of a year, month and day, where the calendar has that day
unfoldable pub day_number_of : ℕ → ℕ → ℕ → Option ℤ
day_number_of year month day =
    if nat_le 1 year && (nat_le 1 month && (nat_le month 12
    && (nat_le 1 day && nat_le day (days_in_month (pos year) month))))
    then Some (days_from_civil (pos year) month day) else None

-- the number of a valid date string, read from the left
unfoldable pub date_number : List ℕ → Option ℤ
date_number text =
    option_and_then (λ r. if length r.1 == 0
    then option_map (λ day. day *ℤ pos 86_400_000) (day_number_of r.0.0 r.0.1 r.0.2)
    else None) (date_at text)

-- the last of the numbers from 1 to `count` that has begun by the day, or 0
unfoldable pub last_begun : (ℕ → ℤ) → ℕ → ℤ → ℕ
last_begun first zero day = 0
last_begun first (suc k) day = if int_lt day (first (suc k)) then last_begun first k day else suc k

-- the text of a year, month and day
unfoldable pub civil_text : ℕ → ℕ → ℕ → List ℕ
civil_text year month day = year_month_text year month ++ (hyphen ∷ padded 2 day)

-- the year, from 1 to 9999, of a day number
unfoldable pub year_of_day : ℤ → ℕ
year_of_day day = last_begun (λ y. days_from_civil (pos y) 1 1) 9999 day

-- its month in that year
unfoldable pub month_of_day : ℕ → ℤ → ℕ
month_of_day year day = last_begun (λ m. days_from_civil (pos year) m 1) 12 day

-- and its day in that month
unfoldable pub day_of_month : ℕ → ℕ → ℤ → ℕ
day_of_month year month day = unsigned_abs (day -ℤ days_from_civil (pos year) month 1) + 1

-- the text of the day, where the calendar has it in that month
unfoldable pub day_text_in : ℕ → ℕ → ℕ → Option (List ℕ)
day_text_in year month day =
    if nat_le 1 year && nat_le day (days_in_month (pos year) month)
    then Some (civil_text year month day) else None

-- the text of the date with a day number
unfoldable pub day_text : ℤ → Option (List ℕ)
day_text day =
    day_text_in (year_of_day day) (month_of_day (year_of_day day) day)
    (day_of_month (year_of_day day) (month_of_day (year_of_day day) day) day)

-- the day in which a number of milliseconds lies, and the milliseconds from its midnight
abbrev pub day_of : ℤ → ℤ
day_of n = int_div_euclid n (pos 86_400_000)

abbrev pub clock_of : ℤ → ℕ
clock_of n = unsigned_abs (int_rem_euclid n (pos 86_400_000))

-- the valid date string of the number, where there is one
unfoldable pub date_text : ℤ → Option (List ℕ)
date_text n = if clock_of n == 0 then day_text (day_of n) else None
