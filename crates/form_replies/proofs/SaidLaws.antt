-- Texts of which a relation holds, said one after the other.
use Rattle.std.proofs.Common.{ℕ, List, ◌++◌}
use Rattle.std.specs.Prelude.{Option}
use Rattle.form_pending.specs.Saying.{Says, SaysPart}
use Rattle.form_pending.proofs.Laws.{part_of_says, part_then, says_then}
use Rattle.form_replies.specs.Saying.{Said, SaidPart}

module _ (written now : Option (List ℕ)) (kept left : List ℕ) where
  pub said_so : (Is : List ℕ → Type 0) (text : List ℕ) → Is text → Says written now kept left text → Said Is written now kept left
  said_so Is text is says = record { text = text; is = is; says = says }

  pub part_so : (Is : List ℕ → Type 0) (text : List ℕ) → Is text → SaysPart written now kept left text → SaidPart Is written now kept left
  part_so Is text is says = record { text = text; is = is; says = says }

  -- what is said is said in part
  pub part_of_said : (Is : List ℕ → Type 0) → Said Is written now kept left → SaidPart Is written now kept left
  part_of_said Is said = record { text = said.text; is = said.is; says = part_of_says written now kept left said.text said.says }

  -- a text with one relation has another
  pub said_as : (Is As : List ℕ → Type 0) → ((text : List ℕ) → Is text → As text) → Said Is written now kept left → Said As written now kept left
  said_as Is As turn said = record { text = said.text; is = turn said.text said.is; says = said.says }

  pub part_as : (Is As : List ℕ → Type 0) → ((text : List ℕ) → Is text → As text) → SaidPart Is written now kept left → SaidPart As written now kept left
  part_as Is As turn said = record { text = said.text; is = turn said.text said.is; says = said.says }

-- a text is said, and then one of which a relation holds
pub says_said : (written between now : Option (List ℕ)) (kept mid left text : List ℕ) (Is As : List ℕ → Type 0) → ((more : List ℕ) → Is more → As (text ++ more))
    → Says written between kept mid text → Said Is between now mid left → Said As written now kept left
says_said written between now kept mid left text Is As turn says said = record {
  text = text ++ said.text;
  is = turn said.text said.is;
  says = says_then written between now kept mid left text said.text says said.says;
}

pub says_part : (written between now : Option (List ℕ)) (kept mid left text : List ℕ) (Is As : List ℕ → Type 0) → ((more : List ℕ) → Is more → As (text ++ more))
    → Says written between kept mid text → SaidPart Is between now mid left → SaidPart As written now kept left
says_part written between now kept mid left text Is As turn says said = record {
  text = text ++ said.text;
  is = turn said.text said.is;
  says = part_then written between now kept mid left text said.text says said.says;
}
