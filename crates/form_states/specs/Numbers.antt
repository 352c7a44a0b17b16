-- Numbers in units of 10^-12.
use Rattle.std.specs.Prelude.{◌≡◌, ℕ, ◌^◌, ◌≤◌, ◌==◌, nat_le, List, Option, Some, None, ℤ, pos, ◌*ℤ◌, unsigned_abs, if◌then◌else◌}
use Rattle.std.specs.Int.{int_div_euclid, int_rem_euclid}
use Rattle.form_decimal.specs.Printed.{printed}

-- a number that a Decimal can hold
abbrev pub IsDecimal : ℤ → Type 0
IsDecimal n = unsigned_abs n ≤ 10 ^ 29

-- a whole number in units
abbrev pub in_units : ℤ → ℤ
in_units m = m *ℤ pos (10 ^ 12)

-- so many units are a whole number with that property
abbrev pub IsWhole : (ℤ → Type 0) → ℤ → Type 0
IsWhole P n = (m : ℤ) × (P m) × (n ≡ in_units m)

-- the whole number that so many units are, where they are one
unfoldable pub whole_of : ℤ → Option ℤ
whole_of n =
    if unsigned_abs (int_rem_euclid n (pos (10 ^ 12))) == 0
    then Some (int_div_euclid n (pos (10 ^ 12))) else None

-- the printed form of a decimal
abbrev pub decimal_text : ℤ → Option (List ℕ)
decimal_text n = if nat_le (unsigned_abs n) (10 ^ 29) then Some (printed n) else None
