use Rattle.std.proofs.Common.{◌≡◌, map, take}
use Rattle.form_select.specs.Datalists.{is_in_datalist}
use Rattle.form_select.proofs.datalists.in_datalists.Given as goal

-- what is known of the elements so far
abbrev pub invariant-loop-place : goal.invariant-loop-place
invariant-loop-place l = l.inside.items ≡ map (is_in_datalist l.tree.nodes) (take l.place l.nodes)
