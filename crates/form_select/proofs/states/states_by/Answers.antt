use Rattle.std.proofs.Common.{◌<◌, length}
use Rattle.form_select.proofs.PlaceLaws.{at_own_key}
use Rattle.form_select.proofs.states.states_by.Goals as goal

pub settled_option-requires-clause-there : goal.settled_option-requires-clause-there
settled_option-requires-clause-there c =
    let ns = c.args.tree.now.nodes in
    let below : c.loop-node.node-index < length ns = rw c.nodes-nodes.ensures.value at c.loop-node-test.true in
    at_own_key ns c.nodes-nodes.ensures.tree c.loop-node.node-index c.node-item.result below (rw c.nodes-nodes.ensures.value at c.node-item.is)
