use Rattle.form_run.proofs.top.run_page.Given as goal

abbrev pub ghosts-transcribe : goal.ghosts-transcribe
ghosts-transcribe g a = record { name = a.blank.name; parts = a.blank.parts }
