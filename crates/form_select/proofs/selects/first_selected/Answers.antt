use Rattle.std.proofs.Common.{ap, ◌∙◌}
use Rattle.std.specs.Option.{option_and_then}
use Rattle.form_tree.specs.Selects.{is_selected, options}
use Rattle.form_tree.specs.Tree.{at_key}
use Rattle.form_select.proofs.StepLaws.{found_behind, found_here}
use Rattle.form_select.proofs.selects.first_selected.Goals as goal

pub returns-in-Some-clause-value : goal.returns-in-Some-clause-value
returns-in-Some-clause-value c =
    found_here c.args.tree.now.nodes c.args.select c.loop-place.place (options c.args.tree.now.nodes c.args.select) is_selected c.loop-place.invariant
    c.in-Some.option c.in-Some.ensures.value c.in-Some.ensures.option

pub loop-place-preserved : goal.loop-place-preserved
loop-place-preserved c =
    found_behind c.args.tree.now.nodes c.args.select c.loop-place.place (options c.args.tree.now.nodes c.args.select) is_selected c.loop-place.invariant
    (c.selected_at.ensures.value ∙ ap (option_and_then (at_key c.args.tree.now.nodes)) c.in_default.is)
