use Rattle.std.proofs.Common.{◌≡◌, take}
use Rattle.std.specs.List.{count_by}
use Rattle.form_page.specs.Invalid.{is_invalid_in}
use Rattle.form_page.proofs.invalid.count_invalid.Given as goal

-- how many there are among the elements so far
abbrev pub invariant-loop-place : goal.invariant-loop-place
invariant-loop-place l = l.count ≡ count_by (is_invalid_in l.tree.nodes l.form) (take l.place l.tree.nodes)
