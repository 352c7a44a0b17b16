-- Valid local date and time strings (HTML, "Local dates and times").
use Rattle.std.specs.Prelude.{◌≡◌, ◌⊎◌, ℕ, nat_lt, List, ◌∷◌, ◌++◌, take, drop, length, ℤ, ◌+ℤ◌, Option, None, option_and_then, option_map, if◌then◌else◌}
use Rattle.form_calendar.specs.Bytes.{upper_t, space}
use Rattle.form_calendar.specs.Reading.{behind_separator}
use Rattle.form_calendar.specs.Date.{IsValidDate, date_number, day_text, day_of, clock_of}
use Rattle.form_calendar.specs.Time.{IsValidTime, time_number, clock_text}

-- a valid date string, the separator and a valid time string
pub record IsLocalText (separator : ℕ) (text : List ℕ) (n : ℤ) : Type 0 where
  pub date_text : List ℕ
  pub time_text : List ℕ
  pub date_number : ℤ
  pub time_number : ℤ
  pub spelled : text ≡ date_text ++ (separator ∷ time_text)
  pub date_is : IsValidDate date_text date_number
  pub time_is : IsValidTime time_text time_number
  pub number : n ≡ date_number +ℤ time_number

-- A valid local date and time string: a valid date string, `T` or one space, and a valid time
-- string (HTML, "valid local date and time string"). Its number is the milliseconds from
-- 1970-01-01T00:00.
abbrev pub IsValidLocal : List ℕ → ℤ → Type 0
IsValidLocal text n = IsLocalText upper_t text n ⊎ IsLocalText space text n

-- the number of a valid local date and time string, read from the left: its date has ten bytes
unfoldable pub local_number : List ℕ → Option ℤ
local_number text =
    if nat_lt (length text) 10 then None
    else option_and_then (λ date. option_and_then (λ rest.
    option_map (λ time. date +ℤ time) (time_number rest))
    (behind_separator (drop 10 text))) (date_number (take 10 text))

-- The valid normalised local date and time string of the number, where there is one: the date, `T`
-- and the shortest time (HTML, "valid normalized local date and time string").
unfoldable pub local_text : ℤ → Option (List ℕ)
local_text n = option_map (λ date. date ++ (upper_t ∷ clock_text (clock_of n))) (day_text (day_of n))
