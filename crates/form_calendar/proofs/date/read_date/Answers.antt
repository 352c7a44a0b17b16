use Rattle.std.proofs.Common.{ap, ◌∙◌}
use Rattle.form_calendar.specs.Date.{date_number}
use Rattle.form_calendar.proofs.StringLaws.{read_found, read_bound}
use Rattle.form_calendar.proofs.DateLemmas.{date_bound}
use Rattle.form_calendar.proofs.DateTexts.{date_laws}
use Rattle.form_calendar.proofs.date.read_date.Goals as goal

pub returns-clause-found : goal.returns-clause-found
returns-clause-found c = read_found date_laws c.args.text.now c.date_in.result (c.date_in.ensures.value ∙ ap date_number c.as_bytes.ensures.value)

pub returns-clause-only : goal.returns-clause-only
returns-clause-only c = λ n v. c.date_in.ensures.value ∙ ap date_number c.as_bytes.ensures.value ∙ date_laws.again c.args.text.now n v

pub returns-clause-bound : goal.returns-clause-bound
returns-clause-bound c = read_bound date_laws date_bound c.args.text.now c.date_in.result (c.date_in.ensures.value ∙ ap date_number c.as_bytes.ensures.value)
