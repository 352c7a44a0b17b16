use Rattle.form_worked_acts.proofs.attributes.attributes_of_every_role.Given as goal

abbrev pub ghosts-first_wrong : goal.ghosts-first_wrong
ghosts-first_wrong a b = record { name = b.blank.name; parts = b.blank.parts }
