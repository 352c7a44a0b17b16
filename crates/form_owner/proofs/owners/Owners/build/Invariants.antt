use Rattle.std.proofs.Common.{◌≡◌, take}
use Rattle.form_owner.specs.Owners.{owners_of}
use Rattle.form_owner.proofs.owners.Owners.build.Given as goal

-- the answers so far
abbrev pub invariant-loop-place : goal.invariant-loop-place
invariant-loop-place l = l.answers.items ≡ take l.place (owners_of l.tree.nodes)
