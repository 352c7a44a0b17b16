use Rattle.std.proofs.Common.{◌≡◌, ◌==◌, ◌++◌, not, drop}
use Rattle.std.specs.List.{filter}
use Rattle.form_changes.proofs.states.numbers_but.Given as goal

-- the numbers so far, and those that are left
abbrev pub invariant-loop-number : goal.invariant-loop-number
invariant-loop-number l = l.left.items ++ filter (λ n. not (n == l.file)) (drop l.number-index l.numbers) ≡ filter (λ n. not (n == l.file)) l.numbers
