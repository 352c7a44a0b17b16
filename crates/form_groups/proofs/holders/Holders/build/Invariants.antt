use Rattle.std.proofs.Common.{◌≡◌, ℕ, take}
use Rattle.form_groups.specs.Holders.{holders, kept_keys}
use Rattle.form_groups.proofs.holders.Holders.build.Given as goal

-- those among the elements so far
abbrev pub invariant-loop-node : goal.invariant-loop-node
invariant-loop-node l = (file : ℕ) → kept_keys l.all file ≡ holders (take l.node-index l.tree.nodes) file
