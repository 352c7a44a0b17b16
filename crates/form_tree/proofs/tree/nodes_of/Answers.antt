use Rattle.std.proofs.Common.{sym, ap, ◌∙◌}
use Rattle.form_tree.specs.Tree.{node_of_raw}
use Rattle.form_tree.proofs.FirstKeys.{one_more, parent_before}
use Rattle.form_tree.proofs.tree.nodes_of.Goals as goal

pub new_node-requires-clause-parent : goal.new_node-requires-clause-parent
new_node-requires-clause-parent c =
    rw (c.len-place.ensures, c.loop-raw.nodes.ok.0)
    (parent_before c.args.raws.items c.requires.tree _ c.in-Some.raw _ (sym c.loop-raw.invariant.2 ∙ c.in-Some.ensures.steps.0))

pub loop-raw-preserved : goal.loop-raw-preserved
loop-raw-preserved c =
    let placed = c.len-place.ensures ∙ c.loop-raw.nodes.ok.0 in
    let more = one_more c.loop-raw.nodes.items c.push.new.self.items c.new_node.result c.in-Some.raw _ _ c.args.raws.items c.in_ok-push.ensures.items
    (c.new_node.ensures ∙ ap (λ place. node_of_raw place c.in-Some.raw) placed) c.in-Some.ensures.steps.0 c.loop-raw.invariant.2 c.loop-raw.invariant.3 in
    (tt, tt, more.0, more.1)
