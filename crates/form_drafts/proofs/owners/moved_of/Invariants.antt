use Rattle.std.proofs.Common.{◌≡◌, None, drop}
use Rattle.std.specs.BTreeMap.{get}
use Rattle.std.specs.Ordering.{nat_cmp}
use Rattle.form_tree.specs.declared.node.Key.{Key}
use Rattle.form_drafts.specs.Drafts.{becomes_by}
use Rattle.form_drafts.proofs.owners.moved_of.Given as goal

-- the moves that are left say of each key what all say
abbrev pub invariant-loop-change : goal.invariant-loop-change
invariant-loop-change l = (k : Key) → becomes_by (drop l.change-index l.moves) (get nat_cmp l.moved k.0) k ≡ becomes_by l.moves None k
