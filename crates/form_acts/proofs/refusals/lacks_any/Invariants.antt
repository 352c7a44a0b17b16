use Rattle.std.proofs.Common.{◌≡◌, not, drop}
use Rattle.std.specs.List.{list_any}
use Rattle.form_acts.specs.Refusals.{is_file_there}
use Rattle.form_acts.proofs.refusals.lacks_any.Given as goal

-- the files that are passed are there
abbrev pub invariant-loop-file : goal.invariant-loop-file
invariant-loop-file l = list_any (λ n. not (is_file_there l.page.files n)) (drop l.file-index l.files) ≡ list_any (λ n. not (is_file_there l.page.files n)) l.files
