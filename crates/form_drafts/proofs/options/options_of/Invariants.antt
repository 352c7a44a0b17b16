use Rattle.std.proofs.Common.{◌≡◌, ◌++◌, drop, map}
use Rattle.std.specs.List.{filter}
use Rattle.form_tree.specs.Selects.{is_option_of}
use Rattle.form_drafts.proofs.options.options_of.Given as goal

-- the options so far, and those that are left
abbrev pub invariant-loop-node : goal.invariant-loop-node
invariant-loop-node l = l.keys.items ++ map (λ n. n.key) (filter (λ n. is_option_of l.tree.nodes l.select n.key) (drop l.node-index l.nodes)) ≡ map (λ n. n.key) (filter (λ n. is_option_of l.tree.nodes l.select n.key) l.nodes)
