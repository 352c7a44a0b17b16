use Rattle.std.proofs.Common.{◌≡◌, ◌++◌, drop}
use Rattle.form_judge.specs.Patterns.{all_recompiled}
use Rattle.form_judge.proofs.patterns.fresh_patterns.Given as goal

-- those so far, and those of the elements that are left
abbrev pub invariant-loop-place : goal.invariant-loop-place
invariant-loop-place l = l.fresh.items ++ all_recompiled (drop l.place l.before) (drop l.place l.after) ≡ all_recompiled l.before l.after
