use Rattle.std.proofs.Common.{take, map}
use Rattle.std.specs.Prelude.{All}
use Rattle.form_encode.specs.Boundaries.{Occurs}
use Rattle.form_encode.proofs.boundaries.is_free.Given as goal

abbrev pub invariant-searching : goal.invariant-searching
invariant-searching l = All (λ bytes. ¬ (Occurs bytes l.boundary)) (take l.part-index (map (λ part. part.items) l.parts))
