use Rattle.std.proofs.Common.{w64, FitsSigned}
use Rattle.std.proofs.lemmas.Int.{to_z-of_z}
use Rattle.form_calendar.proofs.StringLaws.{printed_best, printed_none}
use Rattle.form_calendar.proofs.MonthLemmas.{month_laws}
use Rattle.form_calendar.proofs.month.print_month.Goals as goal

pub returns-clause-shortest : goal.returns-clause-shortest
returns-clause-shortest c =
    let fits : FitsSigned w64 c.args.n = c.ranges.n in
    printed_best month_laws c.month_string.result c.args.n (simp to_z-of_z at c.month_string.ensures)

pub returns-clause-none : goal.returns-clause-none
returns-clause-none c =
    let fits : FitsSigned w64 c.args.n = c.ranges.n in
    printed_none month_laws c.month_string.result c.args.n (simp to_z-of_z at c.month_string.ensures)
