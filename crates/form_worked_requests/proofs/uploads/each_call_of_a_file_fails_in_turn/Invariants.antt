use Rattle.form_worked_requests.proofs.uploads.each_call_of_a_file_fails_in_turn.Given as goal

abbrev pub ghosts-first_unseen : goal.ghosts-first_unseen
ghosts-first_unseen a b = record { name = b.blank.name; parts = b.blank.parts }
