use Rattle.form_run.proofs.OpenableLaws.{openable_read}
use Rattle.form_run.proofs.counting.generated_text.Goals as goal

pub counts_of-requires : goal.counts_of-requires
counts_of-requires g c = openable_read _ c.in-Ok.ensures.tree c.in-Ok.ensures.limits c.in-Ok.ensures.email
