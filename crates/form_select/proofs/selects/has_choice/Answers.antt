use Rattle.std.proofs.Common.{ap, ◌+◌, ◌||◌, ◌∙◌}
use Rattle.std.specs.List.{list_any}
use Rattle.form_tree.specs.Selects.{is_choice_made, options}
use Rattle.form_select.specs.Options.{options_from}
use Rattle.form_select.proofs.StepLaws.{any_step}
use Rattle.form_select.proofs.selects.has_choice.Goals as goal

pub returns-then-is_choice_at : goal.returns-then-is_choice_at
returns-then-is_choice_at c =
    let ns = c.args.tree.now.nodes in
    let test = is_choice_made c.args.placeholder in
    ap (λ b. b || list_any test (options_from ns c.args.select (c.loop-place.place + 1))) c.if-is_choice_at.ensures
    ∙ any_step ns c.args.select c.loop-place.place (options ns c.args.select) test c.loop-place.invariant

pub loop-place-preserved : goal.loop-place-preserved
loop-place-preserved c =
    let ns = c.args.tree.now.nodes in
    let test = is_choice_made c.args.placeholder in
    ap (λ b. b || list_any test (options_from ns c.args.select (c.loop-place.place + 1))) c.if-is_choice_at.ensures
    ∙ any_step ns c.args.select c.loop-place.place (options ns c.args.select) test c.loop-place.invariant
