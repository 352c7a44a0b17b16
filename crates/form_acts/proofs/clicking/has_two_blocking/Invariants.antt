use Rattle.std.proofs.Common.{◌≡◌, ◌+◌, cond, drop, length}
use Rattle.std.specs.List.{filter}
use Rattle.form_tree.specs.Elements.{passes}
use Rattle.form_acts.specs.Clicking.{blocking_count, is_blocking}
use Rattle.form_acts.proofs.clicking.has_two_blocking.Given as goal

-- those that were met, and those that are left
abbrev pub invariant-loop-key : goal.invariant-loop-key
invariant-loop-key l =
    cond l.found 1 0 + length (filter (passes is_blocking l.page.tree.nodes) (drop l.key-index l.owned)) ≡ blocking_count l.page.tree.nodes l.fn.form
