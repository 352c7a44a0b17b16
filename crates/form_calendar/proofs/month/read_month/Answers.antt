use Rattle.std.proofs.Common.{ap, ◌∙◌}
use Rattle.form_calendar.specs.Month.{month_number}
use Rattle.form_calendar.proofs.StringLaws.{read_found, read_bound}
use Rattle.form_calendar.proofs.MonthLemmas.{month_bound}
use Rattle.form_calendar.proofs.MonthLemmas.{month_laws}
use Rattle.form_calendar.proofs.month.read_month.Goals as goal

pub returns-clause-found : goal.returns-clause-found
returns-clause-found c = read_found month_laws c.args.text.now c.month_in.result (c.month_in.ensures ∙ ap month_number c.as_bytes.ensures.value)

pub returns-clause-only : goal.returns-clause-only
returns-clause-only c = λ n v. c.month_in.ensures ∙ ap month_number c.as_bytes.ensures.value ∙ month_laws.again c.args.text.now n v

pub returns-clause-bound : goal.returns-clause-bound
returns-clause-bound c = read_bound month_laws month_bound c.args.text.now c.month_in.result (c.month_in.ensures ∙ ap month_number c.as_bytes.ensures.value)
