use Rattle.std.proofs.Common.{ap, ◌∙◌}
use Rattle.form_tree.specs.Tree.{Nodes}
use Rattle.form_page.specs.States.{with_states}
use Rattle.form_page.proofs.StateLaws.{radios_unchecked}
use Rattle.form_page.proofs.radios.settle_radios.Goals as goal

pub returns : goal.returns
returns c =
    c.put_states.ensures
    ∙ ap (λ (ns : Nodes). record c.args.tree.now { nodes = ns })
    (ap (with_states c.args.tree.now.nodes) c.in_ok-states.ensures ∙ radios_unchecked c.args.tree.now.nodes c.args.tree.now.nodes)
