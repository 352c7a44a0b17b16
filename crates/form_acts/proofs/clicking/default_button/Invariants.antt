use Rattle.std.proofs.Common.{◌≡◌, drop}
use Rattle.std.specs.List.{find}
use Rattle.form_tree.specs.Elements.{passes}
use Rattle.form_acts.specs.Clicking.{default_button, is_submitter}
use Rattle.form_acts.proofs.clicking.default_button.Given as goal

-- the elements that are passed are no submit buttons
abbrev pub invariant-loop-key : goal.invariant-loop-key
invariant-loop-key l = find (passes is_submitter l.page.tree.nodes) (drop l.key-index l.owned) ≡ default_button l.page.tree.nodes l.fn.form
