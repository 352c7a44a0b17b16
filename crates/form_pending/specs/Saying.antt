-- Text that is said to a sink: it goes behind the text that is kept, and what is kept is written when it is due.
use Rattle.std.specs.Prelude.{◌≡◌, ℕ, List, ◌++◌, Option}
use Rattle.std.specs.Io.KnownBytes.{append_known}

-- The text was said behind what was kept: a front of both was written, and what is left is kept.
pub record Says (written now : Option (List ℕ)) (kept left text : List ℕ) : Type 0 where
  pub front : List ℕ
  pub whole : kept ++ text ≡ front ++ left
  pub bytes : now ≡ append_known written front

-- A front of what was kept and the text was written; what is left is kept, and the rest was not said.
pub record SaysPart (written now : Option (List ℕ)) (kept left text : List ℕ) : Type 0 where
  pub front : List ℕ
  pub rest : List ℕ
  pub whole : kept ++ text ≡ front ++ (left ++ rest)
  pub bytes : now ≡ append_known written front
