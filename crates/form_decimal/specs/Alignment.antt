-- Numbers that are a whole number of steps from a base, and the nearest of them.
use Rattle.std.specs.Prelude.{◌≡◌, ℕ, ◌<◌, ◌≤◌, ◌^◌, ◌⊎◌, Option, IfSome, ℤ, ◌-ℤ◌, ◌*ℤ◌, ◌≤ℤ◌, unsigned_abs}

-- Some whole number of steps leads from the base to n (HTML, "The step attribute": the number subtracted from the step
-- base is an integral multiple of the allowed value step).
pub record IsAligned (n base step : ℤ) : Type 0 where
  pub count : ℤ
  pub is : n -ℤ base ≡ count *ℤ step

-- an aligned number that is not below low, nor above high where there is one, and is a decimal
pub record IsCandidate (base step low : ℤ) (high : Option ℤ) (c : ℤ) : Type 0 where
  pub aligned : IsAligned c base step
  pub low_enough : low ≤ℤ c
  pub high_enough : IfSome high (λ h. c ≤ℤ h)
  pub fits : unsigned_abs c ≤ 10 ^ 29

abbrev pub distance : ℤ → ℤ → ℕ
distance a b = unsigned_abs (a -ℤ b)

-- The candidate of least distance to n, the greater one of two (HTML, "Range state": rounding to the nearest number
-- for which the element doesn't suffer from a step mismatch, up at a tie).
pub record IsNearestAligned (n base step low : ℤ) (high : Option ℤ) (c : ℤ) : Type 0 where
  pub candidate : IsCandidate base step low high c
  pub nearest : (d : ℤ) → IsCandidate base step low high d
      → (distance n c < distance n d) ⊎ ((distance n c ≡ distance n d) × (d ≤ℤ c))
