use Rattle.std.proofs.Common.{List, ℕ, Err, length, refl, ap, ◌∙◌, arith}
use Rattle.form_submit.proofs.PartsLaws.{HasParts-length, Outcome-passes}
use Rattle.form_submit.proofs.PieceLaws.{IfRequest-sendable, IfRequest-sizes}
use Rattle.form_submit.proofs.submission.outcome_of_parts.Goals as goal

pub multipart_outcome-requires : goal.multipart_outcome-requires
multipart_outcome-requires g c =
    ap (λ (sizes : List ℕ). length sizes) c.as_slice.ensures ∙ HasParts-length _ _ _ _ _ c.in-Ok.parts c.in-Ok.ensures.parts

pub returns-in-Ok-multipart_outcome-clause-sizes : goal.returns-in-Ok-multipart_outcome-clause-sizes
returns-in-Ok-multipart_outcome-clause-sizes g c =
    IfRequest-sizes _ _ c.args.url _ _ _ c.in-Ok.parts _ _ c.in-Ok.ensures.parts (rw c.as_slice.ensures at c.in-Ok-multipart_outcome.ensures)

pub returns-in-Ok-multipart_outcome-clause-sendable : goal.returns-in-Ok-multipart_outcome-clause-sendable
returns-in-Ok-multipart_outcome-clause-sendable g c =
    IfRequest-sendable _ _ _ c.args.url _ _ _ c.in-Ok.parts _ _ refl (omega arith) c.requires.there c.in-Ok.ensures.parts (rw c.as_slice.ensures at c.in-Ok-multipart_outcome.ensures)

pub returns-in-Err-Long-clause-outcome : goal.returns-in-Err-Long-clause-outcome
returns-in-Err-Long-clause-outcome g c =
    Outcome-passes _ _ c.args.url _ _ (rw c.length_of-left.ensures at (c.read_parts.ensures.past (c.in-Err-Long.is ∙ ap (λ e. Err e) c.in-Err-Long.field-0-is)))
