use Rattle.std.proofs.Common.{arith}
use Rattle.std.proofs.lemmas.Int.{ints}
use Rattle.form_calendar.proofs.MonthLemmas.{months_low, months_high}
use Rattle.form_calendar.proofs.month.months_from_zero.Goals as goal

pub returns-then-n-ltminus23628-clause-none : goal.returns-then-n-ltminus23628-clause-none
returns-then-n-ltminus23628-clause-none c = months_low c.args.n (omega (arith, ints))

pub returns-then-n-gt96359-clause-none : goal.returns-then-n-gt96359-clause-none
returns-then-n-gt96359-clause-none c = months_high c.args.n (omega (arith, ints))
