-- How the parts of a date or time are read from the left.
use Rattle.std.specs.Prelude.{ℕ, ◌+◌, ◌-◌, ◌*◌, ◌==◌, ◌||◌, nat_eq, nat_lt, List, [], ◌∷◌, take, drop, length, Option, Some, None, option_and_then, option_map, if◌then◌else◌, codes}
use Rattle.std.specs.Cmp.Lexicographic.{pointwise}
use Rattle.std.specs.Char.{is_ascii_digit}
use Rattle.form_calendar.specs.Bytes.{digit_zero, upper_t, space}

-- the number that all of a text writes, behind digits that write n
abbrev pub number_after : ℕ → List ℕ → Option ℕ
number_after n [] = Some n
number_after n (d ∷ ds) = if is_ascii_digit d then number_after (n * 10 + (d - digit_zero)) ds else None

-- a number of so many digits, and what stands behind it
abbrev pub number_at : ℕ → List ℕ → Option (ℕ × List ℕ)
number_at count text =
    if nat_lt (length text) count then None
    else option_map (λ n. (n, drop count text)) (number_after 0 (take count text))

-- what stands behind the front, if the text begins with it
abbrev pub behind : List ℕ → List ℕ → Option (List ℕ)
behind front text =
    if pointwise nat_eq (take (length front) text) front
    then Some (drop (length front) text) else None

-- two numbers with a separator between them, the second of two digits, and what stands behind them
unfoldable pub pair_at : ℕ → List ℕ → List ℕ → Option ((ℕ × ℕ) × List ℕ)
pair_at count separator text =
    option_and_then (λ first. option_and_then (λ rest.
    option_map (λ second. ((first.0, second.0), second.1)) (number_at 2 rest))
    (behind separator first.1)) (number_at count text)

-- a year and a second number with the separator between them, which are the whole text
unfoldable pub whole_pair : List ℕ → List ℕ → Option (ℕ × ℕ)
whole_pair separator text =
    option_and_then (λ r. if length r.1 == 0 then Some r.0 else None) (pair_at 4 separator text)

-- the year, month and day of `YYYY-MM-DD`, and what stands behind it
unfoldable pub date_at : List ℕ → Option ((ℕ × ℕ × ℕ) × List ℕ)
date_at text =
    option_and_then (λ month. option_and_then (λ rest.
    option_map (λ day. ((month.0.0, month.0.1, day.0), day.1)) (number_at 2 rest))
    (behind (codes "-") month.1)) (pair_at 4 (codes "-") text)

-- what stands behind a `T` or a space
abbrev pub behind_separator : List ℕ → Option (List ℕ)
behind_separator [] = None
behind_separator (x ∷ xs) = if (x == upper_t) || (x == space) then Some xs else None
