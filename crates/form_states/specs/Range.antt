-- Sanitising in the state range, in four steps (HTML, "Range state": the value sanitization
-- algorithm, suffering from an underflow, an overflow and a step mismatch).
use Rattle.std.specs.Prelude.{◌≡◌, ℕ, ◌/◌, List, Option, Some, None, unwrap_or, ℤ, pos, negsuc, ◌+ℤ◌, ◌-ℤ◌, ◌≤ℤ◌, ◌<ℤ◌, int_lt, ◌⊎◌, if◌then◌else◌}
use Rattle.form_decimal.specs.Numeral.{IsValidNumber}
use Rattle.form_decimal.specs.Reading.{valid_number}
use Rattle.form_decimal.specs.Printed.{IsPrinted, printed}
use Rattle.form_decimal.specs.Halving.{IsHalfBetween}
use Rattle.form_decimal.specs.Alignment.{IsAligned, IsCandidate, IsNearestAligned}
use Rattle.std.specs.Ordering.{int_eq}
use Rattle.form_decimal.specs.Nearest.{is_aligned, nearest_of}
use Rattle.form_states.specs.declared.limits.Limits.{Limits}

-- ---- the rule

-- the default value: the minimum and half of what lies between it and the maximum, or the minimum
-- where the maximum is below it
abbrev pub IsDefault : ℤ → ℤ → ℤ → Type 0
IsDefault low high n = ((high <ℤ low) × (n ≡ low)) ⊎ ((low ≤ℤ high) × IsHalfBetween low high n)

-- the number of the text, or else the default value
abbrev pub IsStart : ℤ → ℤ → List ℕ → ℤ → Type 0
IsStart low high text n = IsValidNumber text n ⊎ (((m : ℤ) → IsValidNumber text m → ⊥) × IsDefault low high n)

-- a number below the minimum becomes the minimum
abbrev pub IsRaised : ℤ → ℤ → ℤ → Type 0
IsRaised low n c = ((n <ℤ low) × (c ≡ low)) ⊎ ((low ≤ℤ n) × (c ≡ n))

-- where the maximum is not below the minimum, a number above it becomes the maximum
abbrev pub IsLowered : ℤ → ℤ → ℤ → ℤ → Type 0
IsLowered low high n c = ((low ≤ℤ high) × (high <ℤ n) × (c ≡ high)) ⊎ (((low ≤ℤ high) → n ≤ℤ high) × (c ≡ n))

-- the maximum, where it is not below the minimum
abbrev pub top_of : ℤ → ℤ → Option ℤ
top_of low high = if int_lt high low then None else Some high

-- a number that is not aligned becomes the nearest candidate, and stays where there is none
abbrev pub IsStepped : ℤ → Option ℤ → ℤ → Option ℤ → ℤ → ℤ → Type 0
IsStepped low top base None n c = c ≡ n
IsStepped low top base (Some step) n c =
    (IsAligned n base step × (c ≡ n))
    ⊎ ((IsAligned n base step → ⊥)
    × (IsNearestAligned n base step low top c
    ⊎ (((d : ℤ) → IsCandidate base step low top d → ⊥) × (c ≡ n))))

-- a text that no step changes stays as it is spelled, and another number is printed
pub record IsSpelledAs (text : List ℕ) (n : ℤ) (result : List ℕ) : Type 0 where
  pub kept : IsValidNumber text n → result ≡ text
  pub printed : (IsValidNumber text n → ⊥) → IsPrinted n result

-- the four steps in turn, from a text to a text
pub record IsCorrected (low high base : ℤ) (step : Option ℤ) (text result : List ℕ) : Type 0 where
  pub start : ℤ
  pub raised : ℤ
  pub lowered : ℤ
  pub final : ℤ
  pub first : IsStart low high text start
  pub second : IsRaised low start raised
  pub third : IsLowered low high raised lowered
  pub fourth : IsStepped low (top_of low high) base step lowered final
  pub spelled : IsSpelledAs text final result

-- the ends of the limits, which are there
abbrev pub low_of : Limits → ℤ
low_of limits = unwrap_or limits.min (pos 0)

abbrev pub high_of : Limits → ℤ
high_of limits = unwrap_or limits.max (pos 0)

abbrev pub IsRangeSanitised : Limits → List ℕ → List ℕ → Type 0
IsRangeSanitised limits text result =
    IsCorrected (low_of limits) (high_of limits) limits.base limits.step text result

-- ---- the same as a function

abbrev pub half : ℤ → ℤ
half (pos a) = pos (a / 2)
half (negsuc a) = pos 0

abbrev pub middle : ℤ → Option ℤ → ℤ
middle low None = low
middle low (Some high) = low +ℤ half (high -ℤ low)

abbrev pub up_to : Option ℤ → ℤ → ℤ
up_to None n = n
up_to (Some high) n = if int_lt high n then high else n

abbrev pub raised_to : ℤ → ℤ → ℤ
raised_to low n = if int_lt n low then low else n

abbrev pub clamped : ℤ → Option ℤ → ℤ → ℤ
clamped low top n = up_to top (raised_to low n)

abbrev pub stepped : ℤ → Option ℤ → ℤ → Option ℤ → ℤ → ℤ
stepped low top base None n = n
stepped low top base (Some step) n =
    if is_aligned n base step then n else unwrap_or (nearest_of n base step low top) n

abbrev pub corrected : ℤ → Option ℤ → ℤ → Option ℤ → ℤ → ℤ
corrected low top base step n = stepped low top base step (clamped low top n)

abbrev pub top_in : Limits → Option ℤ
top_in limits = top_of (low_of limits) (high_of limits)

abbrev pub default_in : Limits → ℤ
default_in limits = middle (low_of limits) (top_in limits)

unfoldable pub corrected_in : Limits → ℤ → ℤ
corrected_in limits n = corrected (low_of limits) (top_in limits) limits.base limits.step n

abbrev pub corrected_text : Limits → List ℕ → Option ℤ → List ℕ
corrected_text limits text None = printed (corrected_in limits (default_in limits))
corrected_text limits text (Some n) =
    if int_eq n (corrected_in limits n) then text else printed (corrected_in limits n)

unfoldable pub range_sanitised : Limits → List ℕ → List ℕ
range_sanitised limits text = corrected_text limits text (valid_number text)
