use Rattle.form_run.proofs.top.run.Given as goal

abbrev pub ghosts-write_generated : goal.ghosts-write_generated
ghosts-write_generated g a = record { name = a.blank.name; parts = a.blank.parts }
