use Rattle.std.proofs.Common.{◌<◌, length}
use Rattle.form_page.specs.Members.{facts_at}
use Rattle.form_page.proofs.CountLaws.{map_more}
use Rattle.form_select.proofs.Laws.{at_own_key}
use Rattle.form_page.proofs.facts.all_facts.Goals as goal

pub facts_of-requires-clause-there : goal.facts_of-requires-clause-there
facts_of-requires-clause-there c =
    let ns = c.args.tree.now.nodes in
    let below : c.loop-node.node-index < length ns = rw c.nodes-nodes.ensures.value at c.loop-node-test.true in
    at_own_key ns c.nodes-nodes.ensures.tree c.loop-node.node-index c.node-item.result below (rw c.nodes-nodes.ensures.value at c.node-item.is)

pub loop-node-preserved : goal.loop-node-preserved
loop-node-preserved c =
    map_more (facts_at c.args.tree.now.nodes) c.nodes-nodes.result.now c.loop-node.node-index c.node-item.result c.loop-node.facts.items c.push.new.self.items c.facts_of.result
    c.loop-node-test.true c.node-item.is c.loop-node.invariant c.in_ok-push.ensures.items c.facts_of.ensures
