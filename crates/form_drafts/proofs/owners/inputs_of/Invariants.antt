use Rattle.std.proofs.Common.{◌≡◌, ◌++◌, drop, map}
use Rattle.std.specs.List.{filter}
use Rattle.form_tree.specs.Elements.{is_input, passes}
use Rattle.form_drafts.proofs.owners.inputs_of.Given as goal

-- the inputs so far, and those that are left
abbrev pub invariant-loop-change : goal.invariant-loop-change
invariant-loop-change l = l.keys.items ++ map (λ m. m.key) (filter (λ m. passes is_input l.tree.nodes m.key) (drop l.change-index l.moves)) ≡ map (λ m. m.key) (filter (λ m. passes is_input l.tree.nodes m.key) l.moves)
