use Rattle.std.proofs.Common.{Err, ap, subst, sym, ◌∙◌}
use Rattle.form_run.specs.Session.{HasShortBoundaries}
use Rattle.form_run.proofs.BoundaryLaws.{heard_command, heard_nothing, heard_short}
use Rattle.form_run.proofs.session.hear_bare.Goals as goal

pub returns-in-Ok-clause-asked : goal.returns-in-Ok-clause-asked
returns-in-Ok-clause-asked c =
    c.asked_of.ensures ∙ heard_command _ _ _ _ (sym c.is_no_command.ensures ∙ c.if-is_no_command.false) c.in-Ok.ensures.ok

pub returns-in-Ok-clause-short : goal.returns-in-Ok-clause-short
returns-in-Ok-clause-short c = subst HasShortBoundaries (sym c.asked_of.ensures) (heard_short _ _ _ c.in-Ok.ensures.ok)

pub returns-in-Err-Syntax-clause-asked : goal.returns-in-Err-Syntax-clause-asked
returns-in-Err-Syntax-clause-asked c =
    heard_nothing _ _ _ (sym c.is_no_command.ensures ∙ c.if-is_no_command.false)
    (c.parse_line.ensures.syntax (c.in-Err-Syntax.is ∙ ap (λ e. Err e) c.in-Err-Syntax.field-0-is))
