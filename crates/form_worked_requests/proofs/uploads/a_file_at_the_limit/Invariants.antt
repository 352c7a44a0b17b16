use Rattle.form_worked_requests.proofs.uploads.a_file_at_the_limit.Given as goal

abbrev pub ghosts-is_limit : goal.ghosts-is_limit
ghosts-is_limit a b = record { name = b.blank.name; parts = b.blank.parts }
