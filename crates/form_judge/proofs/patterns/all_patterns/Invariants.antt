use Rattle.std.proofs.Common.{◌≡◌, map, take}
use Rattle.form_judge.specs.Controls.{pattern_of}
use Rattle.form_judge.proofs.patterns.all_patterns.Given as goal

-- the patterns of the elements so far
abbrev pub invariant-loop-node : goal.invariant-loop-node
invariant-loop-node l = l.patterns.items ≡ map pattern_of (take l.node-index l.nodes)
