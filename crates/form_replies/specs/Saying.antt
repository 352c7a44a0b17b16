-- A text of which a relation holds, said to a sink behind what is kept.
use Rattle.std.specs.Prelude.{ℕ, List, Option}
use Rattle.form_pending.specs.Saying.{Says, SaysPart}

-- such a text was said
pub record Said (Is : List ℕ → Type 0) (written now : Option (List ℕ)) (kept left : List ℕ) : Type 0 where
  pub text : List ℕ
  pub is : Is text
  pub says : Says written now kept left text

-- such a text was said in part
pub record SaidPart (Is : List ℕ → Type 0) (written now : Option (List ℕ)) (kept left : List ℕ) : Type 0 where
  pub text : List ℕ
  pub is : Is text
  pub says : SaysPart written now kept left text
