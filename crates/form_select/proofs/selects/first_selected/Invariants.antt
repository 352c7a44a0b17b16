use Rattle.std.proofs.Common.{◌≡◌}
use Rattle.std.specs.List.{find}
use Rattle.form_tree.specs.Selects.{is_selected, options}
use Rattle.form_select.specs.Options.{options_from}
use Rattle.form_select.proofs.selects.first_selected.Given as goal

-- no selected option is passed
abbrev pub invariant-loop-place : goal.invariant-loop-place
invariant-loop-place l = find is_selected (options_from l.tree.nodes l.select l.place) ≡ find is_selected (options l.tree.nodes l.select)
