use Rattle.std.proofs.Common.{◌≡◌, map, take, Some}
use Rattle.form_judge.specs.Beginning.{first_state}
use Rattle.form_judge.proofs.beginning.first_states.Given as goal

-- the states of the elements so far
abbrev pub invariant-loop-node : goal.invariant-loop-node
invariant-loop-node l = l.states.items ≡ map (λ n. Some (first_state n)) (take l.node-index l.nodes)
