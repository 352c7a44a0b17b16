-- Valid time strings (HTML, "Times").
use Rattle.std.specs.Prelude.{◌≡◌, ◌⊎◌, ℕ, ◌+◌, ◌*◌, ◌/◌, ◌%◌, ◌^◌, ◌==◌, nat_lt, ◌≤◌, List, [], ◌∷◌, ◌++◌, length, ℤ, pos, negsuc, Option, Some, None, option_and_then, option_map, if◌then◌else◌, codes}
use Rattle.std.specs.Int.{IsInRange}
use Rattle.form_calendar.specs.Bytes.{dot, colon}
use Rattle.form_calendar.specs.Digits.{Writes, IsPair, padded, pair_text}
use Rattle.form_calendar.specs.Reading.{number_after, number_at, pair_at}

-- `.` and one to three digits, which write the milliseconds as a fraction of a second
pub record IsSpelledFraction (text : List ℕ) (millisecond : ℕ) : Type 0 where
  pub digits : List ℕ
  pub count : ℕ
  pub value : ℕ
  pub spelled : text ≡ dot ∷ digits
  pub digits_are : Writes count digits value
  pub count_in : IsInRange 1 3 count
  pub means : millisecond * 10 ^ count ≡ value * 1000

-- a fraction, or nothing for no milliseconds
abbrev pub IsFraction : List ℕ → ℕ → Type 0
IsFraction text millisecond = ((text ≡ []) × (millisecond ≡ 0)) ⊎ IsSpelledFraction text millisecond

-- `:SS`, and a fraction or nothing
pub record IsSpelledSeconds (text : List ℕ) (second millisecond : ℕ) : Type 0 where
  pub second_text : List ℕ
  pub fraction_text : List ℕ
  pub spelled : text ≡ colon ∷ second_text ++ fraction_text
  pub second_is : Writes 2 second_text second
  pub second_in : second ≤ 59
  pub fraction_is : IsFraction fraction_text millisecond

-- the seconds, or nothing where they and the milliseconds are zero
abbrev pub IsSeconds : List ℕ → ℕ → ℕ → Type 0
IsSeconds text second millisecond =
    ((text ≡ []) × ((second ≡ 0) × (millisecond ≡ 0))) ⊎ IsSpelledSeconds text second millisecond

-- `HH:MM`
abbrev pub IsMinuteText : List ℕ → ℕ → ℕ → Type 0
IsMinuteText = IsPair 2 (codes ":")

-- the milliseconds from midnight
abbrev pub clock_number : ℕ → ℕ → ℕ → ℕ → ℕ
clock_number hour minute second millisecond =
    ((hour * 60 + minute) * 60 + second) * 1000 + millisecond

-- A valid time string: an hour up to 23 and a minute up to 59, in two digits each, and optionally a
-- second up to 59 with an optional fraction of one to three digits (HTML, "valid time string"). Its
-- number is the milliseconds from midnight.
pub record IsValidTime (text : List ℕ) (n : ℤ) : Type 0 where
  pub hour : ℕ
  pub minute : ℕ
  pub second : ℕ
  pub millisecond : ℕ
  pub minute_text : List ℕ
  pub seconds_text : List ℕ
  pub spelled : text ≡ minute_text ++ seconds_text
  pub minute_is : IsMinuteText minute_text hour minute
  pub hour_in : hour ≤ 23
  pub minute_in : minute ≤ 59
  pub seconds_are : IsSeconds seconds_text second millisecond
  pub number : n ≡ pos (clock_number hour minute second millisecond)

-- how many milliseconds the last of so many digits of a fraction counts
abbrev pub fraction_unit : ℕ → Option ℕ
fraction_unit count =
    if count == 1 then Some 100
    else (if count == 2 then Some 10 else (if count == 3 then Some 1 else None))

-- the milliseconds of a fraction, read from the left
unfoldable pub fraction_number : List ℕ → Option ℕ
fraction_number [] = Some 0
fraction_number (x ∷ digits) =
    if x == dot then option_and_then (λ unit. option_map (λ value. value * unit)
    (number_after 0 digits)) (fraction_unit (length digits)) else None

-- the milliseconds of what stands behind the minute, read from the left
unfoldable pub seconds_number : List ℕ → Option ℕ
seconds_number [] = Some 0
seconds_number (x ∷ rest) =
    if x == colon then option_and_then (λ second. if nat_lt 59 second.0 then None
    else option_map (λ millisecond. second.0 * 1000 + millisecond) (fraction_number second.1))
    (number_at 2 rest) else None

-- the number of a valid time string, read from the left
unfoldable pub clock_read : List ℕ → Option ℕ
clock_read text =
    option_and_then (λ r. if nat_lt 23 r.0.0 then None else (if nat_lt 59 r.0.1 then None
    else option_map (λ seconds. (r.0.0 * 60 + r.0.1) * 60000 + seconds) (seconds_number r.1)))
    (pair_at 2 (codes ":") text)

abbrev pub time_number : List ℕ → Option ℤ
time_number text = option_map pos (clock_read text)

-- the shortest fraction: none where it is zero, and else without zeros at its end
unfoldable pub shortest_fraction : ℕ → List ℕ
shortest_fraction millisecond =
    if millisecond == 0 then []
    else (if millisecond % 100 == 0 then dot ∷ padded 1 (millisecond / 100)
    else (if millisecond % 10 == 0 then dot ∷ padded 2 (millisecond / 10)
    else dot ∷ padded 3 millisecond))

-- the shortest seconds: none where they and the milliseconds are zero
unfoldable pub shortest_seconds : ℕ → List ℕ
shortest_seconds milliseconds =
    if milliseconds == 0 then []
    else colon ∷ padded 2 (milliseconds / 1000) ++ shortest_fraction (milliseconds % 1000)

-- the shortest time of so many milliseconds from midnight
unfoldable pub clock_text : ℕ → List ℕ
clock_text n =
    pair_text 2 (codes ":") (n / 3_600_000) (n / 60_000 % 60) ++ shortest_seconds (n % 60_000)

-- the shortest valid time string of the number, where there is one
unfoldable pub time_text : ℤ → Option (List ℕ)
time_text (pos n) = if nat_lt n 86_400_000 then Some (clock_text n) else None
time_text (negsuc n) = None
