use Rattle.form_worked_acts.proofs.types.changes_of_every_mode.Given as goal

abbrev pub ghosts-first_wrong : goal.ghosts-first_wrong
ghosts-first_wrong a b = record { name = b.blank.name; parts = b.blank.parts }
