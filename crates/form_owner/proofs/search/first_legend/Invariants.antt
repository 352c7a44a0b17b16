use Rattle.std.proofs.Common.{◌≡◌, ◌&&◌, drop}
use Rattle.std.specs.List.{find}
use Rattle.form_tree.specs.Elements.{is_child_of, is_legend}
use Rattle.form_owner.proofs.search.first_legend.Given as goal

-- no element that is passed is such a legend
abbrev pub invariant-loop-place : goal.invariant-loop-place
invariant-loop-place l = find (λ n. is_legend n && is_child_of l.fieldset n) (drop l.place l.tree.nodes) ≡ find (λ n. is_legend n && is_child_of l.fieldset n) l.tree.nodes
