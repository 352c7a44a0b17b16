use Rattle.form_tree.specs.Selects.{options}
use Rattle.form_select.proofs.StepLaws.{marked_step}
use Rattle.form_select.proofs.settling.marked_options.Goals as goal

pub loop-place-preserved : goal.loop-place-preserved
loop-place-preserved c =
    marked_step c.args.tree.now.nodes c.args.select c.loop-place.place (options c.args.tree.now.nodes c.args.select)
    c.loop-place.marked.items c.push_option.new.marked.items c.loop-place.invariant c.in_ok-push_option.ensures
