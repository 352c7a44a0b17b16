-- When what the code holds stands for a pattern.
use Rattle.std.specs.Prelude.{◌≡◌, ℕ, ◌≤◌, Bool, List, Some, slice_get}
use Rattle.regex_class.specs.declared.Class.{Class}
use Rattle.form_pattern.specs.declared.tokens.Chars.{Chars}
use Rattle.form_pattern.specs.Membership.{chars_have}
use Rattle.form_pattern.specs.Pattern.{Pattern}
use Rattle.form_pattern.specs.Pieces.{Tree}
use Rattle.form_pattern.specs.Matching.{Means, Matches}
use Rattle.form_pattern.specs.Steps.{table_has}
use Rattle.form_pattern.specs.Compiled.{Compiles}

-- no character is above the last
abbrev pub Known : List ℕ → Type 0
Known s = (i c : ℕ) → slice_get s i ≡ Some c → c ≤ 0x10_FFFF

-- a leaf has the characters that the text names there
abbrev pub Fits : (ℕ → ℕ → Bool) → ℕ → Chars → Type 0
Fits has left cs = (c : ℕ) → c ≤ 0x10_FFFF → has left c ≡ chars_have cs c

-- a tree and a pattern match alike
abbrev pub MatchAlike : (ℕ → ℕ → Bool) → Tree → Pattern → Type 0
MatchAlike has t p = (s : List ℕ) → Known s → (i j : ℕ) → (Matches has s t i j → Means s p i j) × (Means s p i j → Matches has s t i j)

-- The text compiles, and the tree matches like its pattern.
pub record StandsForText (tables : List Class) (tree : Tree) (text : List ℕ) : Type 0 where
  pub compiles : Compiles text
  pub alike : MatchAlike (table_has tables) tree compiles.pattern
