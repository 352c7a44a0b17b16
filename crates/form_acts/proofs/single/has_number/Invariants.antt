use Rattle.std.proofs.Common.{◌≡◌, ◌==◌, drop}
use Rattle.std.specs.List.{list_any}
use Rattle.form_acts.proofs.single.has_number.Given as goal

-- the numbers that are passed are others
abbrev pub invariant-loop-number : goal.invariant-loop-number
invariant-loop-number l = list_any (λ n. n == l.file) (drop l.number-index l.numbers) ≡ list_any (λ n. n == l.file) l.numbers
