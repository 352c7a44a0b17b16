use Rattle.std.proofs.Common.{◌≡◌, ◌++◌, drop}
use Rattle.std.specs.List.{flat_map}
use Rattle.form_submit.specs.Steps.{key_if_invalid}
use Rattle.form_submit.proofs.invalid.invalid_among.Given as goal

-- the keys so far, and those of the elements that are left
abbrev pub invariant-loop-node : goal.invariant-loop-node
invariant-loop-node l =
    l.keys.items ++ flat_map (key_if_invalid l.page.tree.nodes l.form) (drop l.node-index l.nodes)
    ≡ flat_map (key_if_invalid l.page.tree.nodes l.form) l.nodes
