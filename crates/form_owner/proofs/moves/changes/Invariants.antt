use Rattle.std.proofs.Common.{◌≡◌, ◌++◌, drop}
use Rattle.form_owner.specs.Owners.{changed_owners}
use Rattle.form_owner.proofs.moves.changes.Given as goal

-- the moves so far, and those of the places that are left
abbrev pub invariant-loop-place : goal.invariant-loop-place
invariant-loop-place l = l.moves.items ++ changed_owners (drop l.place l.before) (drop l.place l.after) ≡ changed_owners l.before l.after
