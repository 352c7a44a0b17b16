use Rattle.std.proofs.Common.{take, map, string_bytes}
use Rattle.std.specs.Prelude.{All}
use Rattle.form_encode.specs.Boundaries.{IsFree}
use Rattle.form_encode.proofs.boundaries.first_free.Given as goal

abbrev pub invariant-choosing : goal.invariant-choosing
invariant-choosing l = All (λ boundary. ¬ (IsFree (map (λ part. part.items) l.parts) boundary)) (take l.i (map string_bytes l.bounds))
