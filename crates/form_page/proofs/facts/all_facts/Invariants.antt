use Rattle.std.proofs.Common.{◌≡◌, map, take}
use Rattle.form_page.specs.Members.{facts_at}
use Rattle.form_page.proofs.facts.all_facts.Given as goal

-- the facts of the elements so far
abbrev pub invariant-loop-node : goal.invariant-loop-node
invariant-loop-node l = l.facts.items ≡ map (facts_at l.tree.nodes) (take l.node-index l.nodes)
