use Rattle.std.proofs.Common.{subst, ◌∙◌, arith, rules, w16, w64, FitsSigned}
use Rattle.std.proofs.lemmas.Bool.{false≢true}
use Rattle.std.proofs.lemmas.Int.{to_z-of_z}
use Rattle.jiff_core.specs.Calendar.{IsEpochDay}
use Rattle.jiff_core.proofs.SignedLemmas.{signed_arith}
use Rattle.form_calendar.proofs.WeekLemmas.{monday_range}
use Rattle.form_calendar.proofs.WeekTexts.{monday_text_none, early_no_text, later_no_text, monday_has_text}
use Rattle.form_calendar.proofs.week.week_on.Goals as goal

pub returns-in_default : goal.returns-in_default
returns-in_default c =
    let fits : FitsSigned w64 c.args.day = c.ranges.day in
    let succeeds = simp to_z-of_z at c.in_default.ensures.succeeds in
    monday_text_none c.args.day (λ y w low high r e.
    false≢true (succeeds.1 (subst IsEpochDay e (monday_range _ w (omega (arith, signed_arith)) (omega (arith, signed_arith)) r))))

pub returns-then-week-lt1 : goal.returns-then-week-lt1
returns-then-week-lt1 c =
    let fits : FitsSigned w64 c.args.day = c.ranges.day in
    let value = simp to_z-of_z at c.in-Ok.ensures.value in
    early_no_text c.from_date-week.result c.args.day (c.from_date-week.ensures ∙ value) (omega (arith, signed_arith))

pub returns-in-Monday : goal.returns-in-Monday
returns-in-Monday c =
    let fits : FitsSigned w64 c.args.day = c.ranges.day in
    let year : FitsSigned w16 c.from_date-week.result.year = search rules in
    let value = simp to_z-of_z at c.in-Ok.ensures.value in
    let text = monday_has_text c.from_date-week.result c.args.day (c.from_date-week.ensures ∙ value) (omega (arith, signed_arith)) c.in-Monday.is in
    simp to_z-of_z text

pub returns-in_default-weekday : goal.returns-in_default-weekday
returns-in_default-weekday c =
    let fits : FitsSigned w64 c.args.day = c.ranges.day in
    let value = simp to_z-of_z at c.in-Ok.ensures.value in
    later_no_text c.from_date-week.result c.args.day (c.from_date-week.ensures ∙ value) c.in_default-weekday.not-Monday
