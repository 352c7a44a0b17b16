use Rattle.form_worked_pages.proofs.lists.entries_of_files.Given as goal

abbrev pub ghosts-first_unsent : goal.ghosts-first_unsent
ghosts-first_unsent a b = record { name = b.blank.name; parts = b.blank.parts }
