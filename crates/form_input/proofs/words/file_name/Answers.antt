use Rattle.form_input.proofs.FileNames.{file_name-whole, file_name-behind}
use Rattle.form_input.proofs.words.file_name.Goals as goal

pub returns-in-Some : goal.returns-in-Some
returns-in-Some c = file_name-behind _ _ _ c.in-Some.ensures.cases

pub returns-in-None : goal.returns-in-None
returns-in-None c = file_name-whole _ c.in-None.ensures.cases
