use Rattle.std.proofs.Common.{ap, ◌∙◌}
use Rattle.form_calendar.specs.LocalDateTime.{local_number}
use Rattle.form_calendar.proofs.StringLaws.{read_found, read_bound}
use Rattle.form_calendar.proofs.LocalTexts.{local_bound}
use Rattle.form_calendar.proofs.LocalTexts.{local_laws}
use Rattle.form_calendar.proofs.local.read_local.Goals as goal

pub returns-clause-found : goal.returns-clause-found
returns-clause-found c = read_found local_laws c.args.text.now c.local_in.result (c.local_in.ensures ∙ ap local_number c.as_bytes.ensures.value)

pub returns-clause-only : goal.returns-clause-only
returns-clause-only c = λ n v. c.local_in.ensures ∙ ap local_number c.as_bytes.ensures.value ∙ local_laws.again c.args.text.now n v

pub returns-clause-bound : goal.returns-clause-bound
returns-clause-bound c = read_bound local_laws local_bound c.args.text.now c.local_in.result (c.local_in.ensures ∙ ap local_number c.as_bytes.ensures.value)
