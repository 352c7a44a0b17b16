-- Coefficients of any size with a power of ten, and what the code keeps of them.
use Rattle.std.specs.Prelude.{◌≡◌, ℕ, ◌+◌, ◌*◌, ◌%◌, ◌^◌, ◌<◌, ◌≤◌, ◌⊎◌, length}
use Rattle.form_decimal.specs.Numeral.{Numeral, coefficient, places, raised_by, lowered_by}

-- m units of 10^-12 are a * 10^(up - down) without its point, which stands before the last f digits
abbrev pub IsScaled : ℕ → ℕ → ℕ → ℕ → ℕ → Type 0
IsScaled a f up down m = m * 10 ^ (f + down) ≡ a * 10 ^ (up + 12)

-- the number of units that a coefficient with f places and an exponent means, if it is one
abbrev pub IsUnits : ℕ → ℕ → ℕ → ℕ → ℕ → Type 0
IsUnits a f up down m = (m ≤ 10 ^ 29) × IsScaled a f up down m

-- the magnitude of what the numeral means is m units
abbrev pub Units : Numeral → ℕ → Type 0
Units n m = IsUnits (coefficient n) (length (places n.fraction)) (raised_by n.exponent) (lowered_by n.exponent) m

-- the number has more than 30 digits from its first to its last that is no zero
pub record IsBig (a : ℕ) : Type 0 where
  pub v : ℕ
  pub z : ℕ
  pub is : a ≡ v * 10 ^ z
  pub long : 10 ^ 30 ≤ v
  pub last : 0 < v % 10

-- a number that was read up to a cap
abbrev pub IsCapped : ℕ → ℕ → Type 0
IsCapped whole read = (read ≡ whole) ⊎ ((10 ^ 30 ≤ read) × (read ≤ whole))
