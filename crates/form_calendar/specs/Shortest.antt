-- The text that stands for a number: the shortest of its valid texts.
use Rattle.std.specs.Prelude.{ℕ, List, length, ◌≤◌, ℤ}
use Rattle.form_calendar.specs.Bytes.{upper_t}
use Rattle.form_calendar.specs.LocalDateTime.{IsLocalText, IsValidLocal}

-- a valid text of the number, and no valid text of the number is shorter
pub record IsShortest (IsValid : List ℕ → ℤ → Type 0) (text : List ℕ) (n : ℤ) : Type 0 where
  pub valid : IsValid text n
  pub shortest : (other : List ℕ) → IsValid other n → length text ≤ length other

-- a valid local date and time string of the number with `T`, and no valid one is shorter
pub record IsShortestLocal (text : List ℕ) (n : ℤ) : Type 0 where
  pub valid : IsLocalText upper_t text n
  pub shortest : (other : List ℕ) → IsValidLocal other n → length text ≤ length other
