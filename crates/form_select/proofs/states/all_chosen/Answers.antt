use Rattle.std.proofs.Common.{◌<◌, length}
use Rattle.form_select.proofs.PlaceLaws.{at_own_key}
use Rattle.form_select.proofs.states.all_chosen.Goals as goal

pub chosen_at-requires : goal.chosen_at-requires
chosen_at-requires c =
    let ns = c.args.tree.now.nodes in
    let below : c.loop-node.node-index < length ns = rw c.nodes-nodes.ensures.value at c.loop-node-test.true in
    at_own_key ns c.nodes-nodes.ensures.tree c.loop-node.node-index c.node-item.result below (rw c.nodes-nodes.ensures.value at c.node-item.is)
