use Rattle.std.proofs.Common.{◌∙◌, ap, Some, w64, FitsSigned}
use Rattle.std.proofs.lemmas.Int.{to_z-of_z}
use Rattle.form_calendar.proofs.MonthLemmas.{month_text_at}
use Rattle.form_calendar.proofs.month.month_string.Goals as goal

pub returns-in_default : goal.returns-in_default
returns-in_default c =
    let fits : FitsSigned w64 c.args.n = c.ranges.n in
    simp to_z-of_z at c.in_default.ensures.none

pub returns : goal.returns
returns c =
    let fits : FitsSigned w64 c.args.n = c.ranges.n in
    let k = simp to_z-of_z at c.in-Some.ensures.found in
    ap Some c.in_ok-text.ensures ∙ month_text_at c.args.n c.in-Some.months k.0 k.1 k.2
