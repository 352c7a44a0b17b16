use Rattle.form_run.proofs.CountLaws.{openable_few}
use Rattle.form_run.proofs.counting.counts_of.Goals as goal

pub from_raws-requires-clause-few : goal.from_raws-requires-clause-few
from_raws-requires-clause-few g c = rw c.args.raws.ok.0 (openable_few _ c.requires)
