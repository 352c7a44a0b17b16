use Rattle.std.proofs.Common.{◌≡◌, map, take}
use Rattle.form_select.specs.Settled.{settled_option}
use Rattle.form_select.proofs.states.states_by.Given as goal

-- the states of the elements so far
abbrev pub invariant-loop-node : goal.invariant-loop-node
invariant-loop-node l = l.states.items ≡ map (settled_option l.tree.nodes) (take l.node-index l.nodes)
