use Rattle.form_worked_acts.proofs.marks.marks_of_every_element.Given as goal

abbrev pub ghosts-first_wrong : goal.ghosts-first_wrong
ghosts-first_wrong a b = record { name = b.blank.name; parts = b.blank.parts }
