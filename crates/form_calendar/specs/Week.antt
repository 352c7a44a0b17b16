-- Valid week strings (HTML, "Weeks").
use Rattle.std.specs.Prelude.{◌≡◌, ℕ, ◌+◌, ◌-◌, ◌*◌, ◌/◌, ◌%◌, ◌==◌, ◌||◌, ◌&&◌, nat_le, ◌≤◌, List, ℤ, pos, ◌+ℤ◌, ◌-ℤ◌, ◌*ℤ◌, unsigned_abs, Option, Some, None, option_and_then, if◌then◌else◌, codes}
use Rattle.std.specs.Int.{IsInRange}
use Rattle.jiff_core.specs.Calendar.{days_from_civil, weekday_number, is_leap_year, iso_year_start}
use Rattle.form_calendar.specs.Digits.{IsPair, pair_text}
use Rattle.form_calendar.specs.Reading.{whole_pair}
use Rattle.form_calendar.specs.Date.{last_begun, day_of, clock_of}

-- The weeks of a year: 53 where its 1 January is a Thursday, or is a Wednesday and the year is a
-- leap year, and otherwise 52 (HTML, "Weeks").
unfoldable pub weeks_of : ℤ → ℕ
weeks_of y =
    if (weekday_number (days_from_civil y 1 1) == 3)
    || ((weekday_number (days_from_civil y 1 1) == 2) && is_leap_year y) then 53 else 52

-- the day number of the Monday of a week: the Monday on or before 4 January, and so many weeks on
abbrev pub monday_of : ℤ → ℕ → ℤ
monday_of year week = iso_year_start year +ℤ pos ((week - 1) * 7)

-- `YYYY-Www`
abbrev pub IsWeekText : List ℕ → ℕ → ℕ → Type 0
IsWeekText = IsPair 4 (codes "-W")

-- A valid week string: a year from 1 on in four digits, `-W`, and a week of that year in two
-- (HTML, "valid week string"). Its number is the milliseconds from 1970-01-01 to its Monday's
-- midnight.
pub record IsValidWeek (text : List ℕ) (n : ℤ) : Type 0 where
  pub year : ℕ
  pub week : ℕ
  pub spelled : IsWeekText text year week
  pub from_year_one : 1 ≤ year
  pub week_in : IsInRange 1 (weeks_of (pos year)) week
  pub number : n ≡ monday_of (pos year) week *ℤ pos 86_400_000

-- the number of a year and week, where the year has that week
unfoldable pub week_number_of : ℕ → ℕ → Option ℤ
week_number_of year week =
    if nat_le 1 year && (nat_le 1 week && nat_le week (weeks_of (pos year)))
    then Some (monday_of (pos year) week *ℤ pos 86_400_000) else None

-- the number of a valid week string, read from the left
unfoldable pub week_number : List ℕ → Option ℤ
week_number text = option_and_then (λ p. week_number_of p.0 p.1) (whole_pair (codes "-W") text)

-- the text of a year and week
abbrev pub year_week_text : ℕ → ℕ → List ℕ
year_week_text = pair_text 4 (codes "-W")

-- the year, from 1 to 9999, whose weeks have begun by a day
unfoldable pub week_year_of_day : ℤ → ℕ
week_year_of_day day = last_begun (λ y. iso_year_start (pos y)) 9999 day

-- the text of the week that begins so many days into the weeks of the year, where one does
unfoldable pub week_text_in : ℕ → ℕ → Option (List ℕ)
week_text_in year days =
    if nat_le 1 year && ((days % 7 == 0) && nat_le (days / 7 + 1) (weeks_of (pos year)))
    then Some (year_week_text year (days / 7 + 1)) else None

-- the text of the week whose Monday has the day number
unfoldable pub monday_text : ℤ → Option (List ℕ)
monday_text day =
    week_text_in (week_year_of_day day)
    (unsigned_abs (day -ℤ iso_year_start (pos (week_year_of_day day))))

-- the valid week string of the number, where there is one
unfoldable pub week_text : ℤ → Option (List ℕ)
week_text n = if clock_of n == 0 then monday_text (day_of n) else None
