use Rattle.std.proofs.Common.{◌≡◌, ◌++◌, drop, length}
use Rattle.std.specs.Vec.Iter.{into_iter_items}
use Rattle.form_tree.specs.Tree.{nodes_of_raws}
use Rattle.form_tree.proofs.FirstKeys.{numbered}
use Rattle.form_tree.proofs.tree.nodes_of.Given as goal

-- the nodes so far, and those of the raws that are left
abbrev pub invariant-loop-raw : goal.invariant-loop-raw
invariant-loop-raw l =
    (goal.iterator-loop-raw).can_next l.raw-iterator × (goal.iterator-loop-raw).is_finite l.raw-iterator
    × (into_iter_items l.raw-iterator ≡ drop (length l.nodes.items) l.fn.raws.items)
    × (l.nodes.items ++ numbered (length l.nodes.items) (into_iter_items l.raw-iterator) ≡ nodes_of_raws l.fn.raws.items)
