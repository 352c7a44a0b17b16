use Rattle.std.proofs.Common.{◌≡◌}
use Rattle.form_judge.specs.Patterns.{patterns_by}
use Rattle.form_judge.proofs.patterns.put_patterns.Given as goal

-- what is left makes of the patterns so far what all make of the old ones
abbrev pub invariant-loop-pattern : goal.invariant-loop-pattern
invariant-loop-pattern l = patterns_by l.patterns l.left.items ≡ patterns_by l.fn.patterns l.fn.fresh.items

-- one fewer is left
abbrev pub decreases-loop-pattern : goal.decreases-loop-pattern
decreases-loop-pattern l = goal.left-loop-pattern l
