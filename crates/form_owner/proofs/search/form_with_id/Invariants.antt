use Rattle.std.proofs.Common.{◌≡◌, drop}
use Rattle.std.specs.List.{find}
use Rattle.form_tree.specs.Ownership.{has_id}
use Rattle.form_owner.proofs.search.form_with_id.Given as goal

-- no element that is passed has the ID
abbrev pub invariant-loop-place : goal.invariant-loop-place
invariant-loop-place l = find (has_id l.text) (drop l.place l.tree.nodes) ≡ find (has_id l.text) l.tree.nodes
