use Rattle.std.proofs.Common.{ap, sym, ◌∙◌, rules, w64, FitsSigned}
use Rattle.std.proofs.lemmas.Int.{to_z-of_z}
use Rattle.form_calendar.specs.Date.{day_text, date_text}
use Rattle.form_calendar.proofs.PrintLemmas.{printed_as}
use Rattle.form_calendar.proofs.DateTexts.{date_text_later, date_text_midnight}
use Rattle.form_calendar.proofs.date.date_string.Goals as goal

pub returns-then-clock_of-ne0 : goal.returns-then-clock_of-ne0
returns-then-clock_of-ne0 c =
    let fits : FitsSigned w64 c.args.n = c.ranges.n in
    let clock = simp to_z-of_z at c.clock_of.ensures.value in
    date_text_later c.args.n (λ e. c.if-clock_of-ne0.true (clock ∙ e))

pub returns : goal.returns
returns c =
    let fits : FitsSigned w64 c.args.n = c.ranges.n in
    let clock = simp to_z-of_z at c.clock_of.ensures.value in
    let day = simp to_z-of_z at c.day_of.ensures in
    let fits_day : FitsSigned w64 c.day_of.result = search rules in
    let text = simp to_z-of_z at c.day_string.ensures in
    printed_as c.day_string.result (day_text c.day_of.result) (date_text c.args.n) text (ap day_text day ∙ date_text_midnight c.args.n (sym clock ∙ c.if-clock_of-ne0.false))
