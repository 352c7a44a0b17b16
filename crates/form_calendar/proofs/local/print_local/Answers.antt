use Rattle.std.proofs.Common.{w64, FitsSigned}
use Rattle.std.proofs.lemmas.Int.{to_z-of_z}
use Rattle.form_calendar.proofs.StringLaws.{printed_best, printed_none}
use Rattle.form_calendar.proofs.LocalTexts.{local_laws}
use Rattle.form_calendar.proofs.local.print_local.Goals as goal

pub returns-clause-shortest : goal.returns-clause-shortest
returns-clause-shortest c =
    let fits : FitsSigned w64 c.args.n = c.ranges.n in
    printed_best local_laws c.local_string.result c.args.n (simp to_z-of_z at c.local_string.ensures)

pub returns-clause-none : goal.returns-clause-none
returns-clause-none c =
    let fits : FitsSigned w64 c.args.n = c.ranges.n in
    printed_none local_laws c.local_string.result c.args.n (simp to_z-of_z at c.local_string.ensures)
