use Rattle.std.proofs.Common.{w64, FitsSigned}
use Rattle.std.proofs.lemmas.Int.{to_z-of_z}
use Rattle.form_calendar.proofs.StringLaws.{printed_best, printed_none}
use Rattle.form_calendar.proofs.WeekTexts.{week_laws}
use Rattle.form_calendar.proofs.week.print_week.Goals as goal

pub returns-clause-shortest : goal.returns-clause-shortest
returns-clause-shortest c =
    let fits : FitsSigned w64 c.args.n = c.ranges.n in
    printed_best week_laws c.week_string.result c.args.n (simp to_z-of_z at c.week_string.ensures)

pub returns-clause-none : goal.returns-clause-none
returns-clause-none c =
    let fits : FitsSigned w64 c.args.n = c.ranges.n in
    printed_none week_laws c.week_string.result c.args.n (simp to_z-of_z at c.week_string.ensures)
