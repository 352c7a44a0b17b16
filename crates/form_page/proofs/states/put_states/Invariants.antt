use Rattle.std.proofs.Common.{◌≡◌}
use Rattle.form_page.specs.States.{with_states}
use Rattle.form_page.proofs.states.put_states.Given as goal

-- what is left makes of the tree so far what all make of the old one
abbrev pub invariant-loop-state : goal.invariant-loop-state
invariant-loop-state l = record l.tree { nodes = with_states l.tree.nodes l.left.items } ≡ record l.fn.tree { nodes = with_states l.fn.tree.nodes l.fn.states.items }

-- one state fewer is left
abbrev pub decreases-loop-state : goal.decreases-loop-state
decreases-loop-state l = goal.left-loop-state l
