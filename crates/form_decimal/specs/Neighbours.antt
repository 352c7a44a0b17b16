-- The aligned numbers and candidates beside a number.
use Rattle.std.specs.Prelude.{◌≡◌, ◌⊎◌, ℤ, ◌-ℤ◌, ◌≤ℤ◌, ◌<ℤ◌, Some}
use Rattle.form_decimal.specs.Alignment.{IsAligned, IsCandidate}

-- the greatest aligned number up to the limit
pub record IsGreatest (base step limit c : ℤ) : Type 0 where
  pub aligned : IsAligned c base step
  pub below : c ≤ℤ limit
  pub greatest : (d : ℤ) → IsAligned d base step → d ≤ℤ limit → d ≤ℤ c

-- the least aligned number from the limit
pub record IsLeast (base step limit c : ℤ) : Type 0 where
  pub aligned : IsAligned c base step
  pub above : limit ≤ℤ c
  pub least : (d : ℤ) → IsAligned d base step → limit ≤ℤ d → c ≤ℤ d

-- the greatest candidate up to n
pub record IsLower (n base step low top c : ℤ) : Type 0 where
  pub candidate : IsCandidate base step low (Some top) c
  pub below : c ≤ℤ n
  pub greatest : (d : ℤ) → IsCandidate base step low (Some top) d → d ≤ℤ n → d ≤ℤ c

-- the least candidate from n
pub record IsUpper (n base step low top c : ℤ) : Type 0 where
  pub candidate : IsCandidate base step low (Some top) c
  pub above : n ≤ℤ c
  pub least : (d : ℤ) → IsCandidate base step low (Some top) d → n ≤ℤ d → c ≤ℤ d

-- the nearer one of two, and the upper one at a tie
abbrev pub IsNearer : ℤ → ℤ → ℤ → ℤ → Type 0
IsNearer n below above c =
    ((c ≡ below) × ((n -ℤ below) <ℤ (above -ℤ n)))
    ⊎ ((c ≡ above) × ((above -ℤ n) ≤ℤ (n -ℤ below)))
