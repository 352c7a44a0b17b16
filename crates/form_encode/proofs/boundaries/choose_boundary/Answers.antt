use Rattle.form_encode.proofs.FreeLaws.{first_free-only}
use Rattle.form_encode.proofs.boundaries.choose_boundary.Goals as goal

pub returns-clause-value : goal.returns-clause-value
returns-clause-value c = first_free-only _ _ _ c.first_free.ensures
