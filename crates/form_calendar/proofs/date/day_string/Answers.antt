use Rattle.std.proofs.Common.{ap, sym, ◌∙◌, rules, Some, w16, w64, FitsSigned}
use Rattle.std.proofs.lemmas.Int.{to_z-of_z}
use Rattle.form_calendar.specs.Date.{day_text}
use Rattle.form_calendar.proofs.DateTexts.{day_text_date, day_text_none}
use Rattle.form_calendar.proofs.date.day_string.Goals as goal

pub returns-in_default : goal.returns-in_default
returns-in_default c =
    let fits : FitsSigned w64 c.args.day = c.ranges.day in
    day_text_none c.args.day (simp to_z-of_z at c.in_default.ensures.none)

pub returns : goal.returns
returns c =
    let fits : FitsSigned w64 c.args.day = c.ranges.day in
    let year : FitsSigned w16 c.in-Some.date.year = search rules in
    let text = simp to_z-of_z at c.in_ok-text.ensures in
    let found = simp to_z-of_z at c.in-Some.ensures.found in
    ap Some text ∙ sym (day_text_date c.in-Some.date found.0) ∙ ap day_text found.1
