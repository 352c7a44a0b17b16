use Rattle.std.proofs.Common.{◌≡◌, All, length}
use Rattle.std.specs.Prelude.{IsSome}
use Rattle.form_worked_runs.proofs.setting.run_of.Given as goal

-- a file for each word so far
abbrev pub invariant-loop-path : goal.invariant-loop-path
invariant-loop-path l = record {
  count : length l.shelf.items ≡ l.path-index;
  there : All IsSome l.shelf.items;
}
