use Rattle.std.proofs.Common.{◌∙◌, rules, sym}
use Rattle.form_script.specs.Reading.{text_in}
use Rattle.form_script.proofs.FittingLaws.{encoded_some, fails_to_go_on, goes_on}
use Rattle.form_script.proofs.boundary.is_boundary_inside.Goals as goal

pub returns-then-not-begins_boundary : goal.returns-then-not-begins_boundary
returns-then-not-begins_boundary c =
    sym (c.steps.invariant.1 ∙ fails_to_go_on c.steps.before c.in-Escape.plain.now c.in-Escape.c (text_in c.steps.rest.now) (text_in c.in-Escape.behind.now) (encoded_some c.in-Escape.c) c.in-Escape.ensures.begins (sym c.if-not-begins_boundary.ensures))

pub steps-preserved : goal.steps-preserved
steps-preserved c =
    let on = goes_on c.steps.before c.in-Escape.plain.now c.in-Escape.c (text_in c.steps.rest.now) (text_in c.in-Escape.behind.now) c.in-Escape.ensures.begins (sym c.if-not-begins_boundary.ensures) in
    (search rules, c.steps.invariant.1 ∙ on.0, on.1)
