use Rattle.std.proofs.Common.{◌≡◌, ◌+◌, length}
use Rattle.form_tree.specs.declared.node.Key.{Key}
use Rattle.form_tree.specs.Index.{indexed, first_place}
use Rattle.form_tree.proofs.tree.first_index.Given as goal

-- the index of the keys so far
abbrev pub invariant-loop-place : goal.invariant-loop-place
invariant-loop-place l = (length l.index.items ≡ l.place + 1) × ((k : Key) → indexed l.index.items k ≡ first_place l.place k)
