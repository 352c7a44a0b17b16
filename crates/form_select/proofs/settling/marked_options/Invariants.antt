use Rattle.std.proofs.Common.{◌≡◌, ◌++◌, map}
use Rattle.form_tree.specs.Selects.{marked_option, options}
use Rattle.form_select.specs.Options.{options_from}
use Rattle.form_select.proofs.settling.marked_options.Given as goal

-- the options so far, and those that are left
abbrev pub invariant-loop-place : goal.invariant-loop-place
invariant-loop-place l = l.marked.items ++ map (marked_option l.tree.nodes) (options_from l.tree.nodes l.select l.place) ≡ map (marked_option l.tree.nodes) (options l.tree.nodes l.select)
