use Rattle.std.proofs.Common.{ap, ◌∙◌}
use Rattle.form_calendar.specs.Week.{week_number}
use Rattle.form_calendar.proofs.StringLaws.{read_found, read_bound}
use Rattle.form_calendar.proofs.WeekLemmas.{week_bound}
use Rattle.form_calendar.proofs.WeekTexts.{week_laws}
use Rattle.form_calendar.proofs.week.read_week.Goals as goal

pub returns-clause-found : goal.returns-clause-found
returns-clause-found c = read_found week_laws c.args.text.now c.week_in.result (c.week_in.ensures ∙ ap week_number c.as_bytes.ensures.value)

pub returns-clause-only : goal.returns-clause-only
returns-clause-only c = λ n v. c.week_in.ensures ∙ ap week_number c.as_bytes.ensures.value ∙ week_laws.again c.args.text.now n v

pub returns-clause-bound : goal.returns-clause-bound
returns-clause-bound c = read_bound week_laws week_bound c.args.text.now c.week_in.result (c.week_in.ensures ∙ ap week_number c.as_bytes.ensures.value)
