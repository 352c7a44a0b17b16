use Rattle.form_run.proofs.OpenableLaws.{openable_read}
use Rattle.form_run.proofs.taken.take_page.Goals as goal

pub returns-in-Ok-read-clause-openable : goal.returns-in-Ok-read-clause-openable
returns-in-Ok-read-clause-openable c = openable_read _ c.in-Ok-read.ensures.tree c.in-Ok-read.ensures.limits c.in-Ok-read.ensures.email
