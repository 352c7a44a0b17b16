use Rattle.std.proofs.Common.{◌≡◌, ◌++◌, drop}
use Rattle.form_page.specs.Changes.{changed_keys}
use Rattle.form_page.proofs.changes.changed_keys.Given as goal

-- the keys so far, and those of the elements that are left
abbrev pub invariant-loop-place : goal.invariant-loop-place
invariant-loop-place l = l.keys.items ++ changed_keys (drop l.place l.nodes) (drop l.place l.before) (drop l.place l.after) ≡ changed_keys l.nodes l.before l.after
