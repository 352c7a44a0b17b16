use Rattle.std.proofs.Common.{◌≡◌, map, string_bytes}
use Rattle.std.specs.Prelude.{flat_map}
use Rattle.form_generator.specs.Generator.{commands_at, numbers_to}
use Rattle.form_generator.proofs.generator.lines_of.Given as goal

-- the commands so far
abbrev pub invariant-loop-before : goal.invariant-loop-before
invariant-loop-before l = map string_bytes l.lines.items ≡ flat_map commands_at (numbers_to l.before)
