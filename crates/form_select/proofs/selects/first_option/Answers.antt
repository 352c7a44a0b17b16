use Rattle.std.proofs.Common.{ap, ◌∙◌}
use Rattle.std.specs.Option.{option_and_then}
use Rattle.form_tree.specs.Selects.{options}
use Rattle.form_tree.specs.Tree.{at_key}
use Rattle.form_select.specs.Options.{as_list}
use Rattle.form_select.proofs.StepLaws.{first_behind, first_here}
use Rattle.form_select.proofs.selects.first_option.Goals as goal

pub returns-in-Some : goal.returns-in-Some
returns-in-Some c =
    first_here c.args.tree.now.nodes c.args.select c.loop-place.place (options c.args.tree.now.nodes c.args.select) c.loop-place.invariant
    c.in-Some.option c.in-Some.ensures.value c.in-Some.ensures.option

pub loop-place-preserved : goal.loop-place-preserved
loop-place-preserved c =
    first_behind c.args.tree.now.nodes c.args.select c.loop-place.place (options c.args.tree.now.nodes c.args.select) c.loop-place.invariant
    (c.option_at.ensures.value ∙ ap (λ o. as_list (option_and_then (at_key c.args.tree.now.nodes) o)) c.in_default.is)
