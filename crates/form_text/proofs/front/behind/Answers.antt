use Rattle.form_text.proofs.FrontLaws.{stripped_front, missing_front}
use Rattle.form_text.proofs.front.behind.Goals as goal

pub returns-in-Some : goal.returns-in-Some
returns-in-Some c = let found = c.in-Some.ensures.cases in stripped_front _ _ _ found.0 found.1 found.2

pub returns-in-None : goal.returns-in-None
returns-in-None c = missing_front _ _ c.in-None.ensures.cases
