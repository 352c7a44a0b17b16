use Rattle.std.proofs.Common.{◌≡◌, map, take}
use Rattle.form_select.specs.Settled.{chosen_at}
use Rattle.form_select.proofs.states.all_chosen.Given as goal

-- what was found so far
abbrev pub invariant-loop-node : goal.invariant-loop-node
invariant-loop-node l = l.chosen.items ≡ map (chosen_at l.tree.nodes) (take l.node-index l.nodes)
