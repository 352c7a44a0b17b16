use Rattle.std.proofs.Common.{◌≡◌, ◌++◌, drop}
use Rattle.form_page.specs.States.{unchecked_by}
use Rattle.form_page.proofs.radios.unchecked.Given as goal

-- the states so far, and those of the elements that are left
abbrev pub invariant-loop-place : goal.invariant-loop-place
invariant-loop-place l = l.states.items ++ unchecked_by (drop l.place l.nodes) (drop l.place l.marks) ≡ unchecked_by l.nodes l.marks
