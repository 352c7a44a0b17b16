use Rattle.std.proofs.Common.{ap, ◌∙◌}
use Rattle.form_calendar.specs.Time.{time_number}
use Rattle.form_calendar.proofs.StringLaws.{read_found, read_bound}
use Rattle.form_calendar.proofs.TimeTexts.{time_bound}
use Rattle.form_calendar.proofs.TimeTexts.{time_laws}
use Rattle.form_calendar.proofs.time.read_time.Goals as goal

pub returns-clause-found : goal.returns-clause-found
returns-clause-found c = read_found time_laws c.args.text.now c.milliseconds_in.result (c.milliseconds_in.ensures ∙ ap time_number c.as_bytes.ensures.value)

pub returns-clause-only : goal.returns-clause-only
returns-clause-only c = λ n v. c.milliseconds_in.ensures ∙ ap time_number c.as_bytes.ensures.value ∙ time_laws.again c.args.text.now n v

pub returns-clause-bound : goal.returns-clause-bound
returns-clause-bound c = read_bound time_laws time_bound c.args.text.now c.milliseconds_in.result (c.milliseconds_in.ensures ∙ ap time_number c.as_bytes.ensures.value)
