use Rattle.std.proofs.Common.{◌≡◌}
use Rattle.std.specs.Prelude.{unwrap_or}
use Rattle.std.specs.List.{list_any}
use Rattle.form_tree.specs.Elements.{is_datalist}
use Rattle.form_tree.specs.Ownership.{ancestors}
use Rattle.form_tree.specs.Tree.{place_of}
use Rattle.form_entries.proofs.controls.is_in_datalist.Given as goal

-- no datalist was passed
abbrev pub invariant-climbing : goal.invariant-climbing
invariant-climbing l = list_any is_datalist (ancestors l.tree.nodes l.at) ≡ list_any is_datalist (ancestors l.tree.nodes l.fn.key)

-- a parent stands before its child
abbrev pub decreases-climbing : goal.decreases-climbing
decreases-climbing l = unwrap_or (place_of l.tree.nodes l.at) 0
