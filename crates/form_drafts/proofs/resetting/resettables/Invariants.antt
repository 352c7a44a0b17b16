use Rattle.std.proofs.Common.{◌≡◌, ◌++◌, drop}
use Rattle.std.specs.List.{filter}
use Rattle.form_tree.specs.Elements.{is_resettable, passes}
use Rattle.form_drafts.proofs.resetting.resettables.Given as goal

-- the controls so far, and those that are left
abbrev pub invariant-loop-key : goal.invariant-loop-key
invariant-loop-key l = l.keys.items ++ filter (passes is_resettable l.page.tree.nodes) (drop l.key-index l.owned) ≡ filter (passes is_resettable l.page.tree.nodes) l.owned
