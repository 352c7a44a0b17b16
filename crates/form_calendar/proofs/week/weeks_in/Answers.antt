use Rattle.std.proofs.Common.{arith, w16, w64, FitsSigned}
use Rattle.std.proofs.lemmas.Int.{ints, to_z-of_z}
use Rattle.form_calendar.proofs.WeekLemmas.{weeks_same}
use Rattle.form_calendar.proofs.week.weeks_in.Goals as goal

pub returns : goal.returns
returns c =
    let fits : FitsSigned w16 c.args.year = omega (arith, ints) in
    let whole : FitsSigned w64 c.args.year = c.ranges.year in
    let e = simp to_z-of_z at c.weeks_in_year.ensures.value in
    omega (arith, e, weeks_same c.args.year (omega (arith, ints), omega (arith, ints)))
