use Rattle.std.proofs.Common.{ap, ◌∙◌}
use Rattle.form_tree.specs.Tree.{Nodes}
use Rattle.form_select.specs.Settled.{settled_option}
use Rattle.form_page.specs.States.{with_states}
use Rattle.form_page.proofs.StateLaws.{with_states_map}
use Rattle.form_page.proofs.opening.settle_selects.Goals as goal

pub returns : goal.returns
returns c =
    c.put_states.ensures
    ∙ ap (λ (ns : Nodes). record c.args.tree.now { nodes = ns })
    (ap (with_states c.args.tree.now.nodes) c.in_ok-states.ensures ∙ with_states_map (settled_option c.args.tree.now.nodes) c.args.tree.now.nodes)
