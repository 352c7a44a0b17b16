-- What a pattern attribute's text says: whether it compiles, and which values it matches.
use Rattle.std.specs.Prelude.{ℕ, ◌≤◌, List, length}
use Rattle.form_pattern.specs.declared.pieces.TheConstants.{HEAVIEST}
use Rattle.form_pattern.specs.Pattern.{Pattern, weight}
use Rattle.form_pattern.specs.Grammar.{IsPattern}
use Rattle.form_pattern.specs.Matching.{Means}

-- The text is a pattern that weighs at most 2,000.
pub record Compiles (text : List ℕ) : Type 0 where
  pub pattern : Pattern
  pub is : IsPattern text pattern
  pub light : weight pattern ≤ HEAVIEST

-- The text is a pattern that matches the whole value.
pub record MatchesWhole (text value : List ℕ) : Type 0 where
  pub pattern : Pattern
  pub is : IsPattern text pattern
  pub means : Means value pattern 0 (length value)
