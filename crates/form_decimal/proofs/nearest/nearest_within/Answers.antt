use Rattle.form_decimal.proofs.ChoiceLemmas.{no_top}
use Rattle.form_decimal.proofs.nearest.nearest_within.Goals as goal

pub returns-in-None-clause-some : goal.returns-in-None-clause-some
returns-in-None-clause-some c =
    rw c.in-None.is
    (no_top c.args.n c.args.base c.args.step c.args.low c.greatest.result c.nearest_up_to-in-None.result c.greatest.ensures c.nearest_up_to-in-None.ensures.some)
