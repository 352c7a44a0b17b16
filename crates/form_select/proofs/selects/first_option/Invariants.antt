use Rattle.std.proofs.Common.{◌≡◌}
use Rattle.form_tree.specs.Selects.{options}
use Rattle.form_select.specs.Options.{options_from}
use Rattle.form_select.proofs.selects.first_option.Given as goal

-- no option is passed
abbrev pub invariant-loop-place : goal.invariant-loop-place
invariant-loop-place l = options_from l.tree.nodes l.select l.place ≡ options l.tree.nodes l.select
