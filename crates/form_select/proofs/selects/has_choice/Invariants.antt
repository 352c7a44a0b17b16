use Rattle.std.proofs.Common.{◌≡◌}
use Rattle.std.specs.List.{list_any}
use Rattle.form_tree.specs.Selects.{is_choice_made, options}
use Rattle.form_select.specs.Options.{options_from}
use Rattle.form_select.proofs.selects.has_choice.Given as goal

-- no choice is passed
abbrev pub invariant-loop-place : goal.invariant-loop-place
invariant-loop-place l = list_any (is_choice_made l.placeholder) (options_from l.tree.nodes l.select l.place) ≡ list_any (is_choice_made l.placeholder) (options l.tree.nodes l.select)
