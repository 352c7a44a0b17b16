use Rattle.std.proofs.Common.{◌∙◌, ap, ◌∷◌}
use Rattle.form_encode.proofs.BoundaryLaws.{not-occurs}
use Rattle.form_encode.proofs.boundaries.occurs.Goals as goal

pub returns-in-None-clause-nowhere : goal.returns-in-None-clause-nowhere
returns-in-None-clause-nowhere c = λ _.
    not-occurs _ _ _ (c.put.ensures ∙ ap (λ t. 45 ∷ 45 ∷ t) c.as_bytes-text.ensures.value) c.in-None.ensures
