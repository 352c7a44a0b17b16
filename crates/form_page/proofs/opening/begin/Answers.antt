use Rattle.std.proofs.Common.{Some, map, ap, ◌∙◌}
use Rattle.form_tree.specs.Tree.{Nodes}
use Rattle.form_judge.specs.Beginning.{first_state}
use Rattle.form_page.specs.States.{with_states}
use Rattle.form_page.proofs.StateLaws.{with_states_map}
use Rattle.form_page.proofs.opening.begin.Goals as goal

pub returns : goal.returns
returns c =
    c.put_states.ensures
    ∙ ap (λ (ns : Nodes). record c.args.tree.now { nodes = ns })
    (ap (with_states c.args.tree.now.nodes) (c.in_ok-states.ensures ∙ ap (λ (ns : Nodes). map (λ n. Some (first_state n)) ns) c.nodes.ensures.value)
    ∙ with_states_map (λ n. Some (first_state n)) c.args.tree.now.nodes)
