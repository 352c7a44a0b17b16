use Rattle.form_decimal.proofs.ScalingLemmas.{big_digits}
use Rattle.form_decimal.proofs.coefficient.coefficient.Goals as goal

pub returns-in_default-clause-none : goal.returns-in_default-clause-none
returns-in_default-clause-none c = big_digits c.args.fraction.now _ c.requires.fraction c.in_default.ensures.none
