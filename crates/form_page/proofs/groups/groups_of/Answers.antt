use Rattle.std.proofs.Common.{◌<◌, List, length, ap, ◌∙◌}
use Rattle.form_tree.specs.Elements.{is_among}
use Rattle.form_groups.specs.declared.group.Member.{Member}
use Rattle.form_groups.specs.Groups.{keys_of}
use Rattle.form_select.proofs.Laws.{at_own_key, read_there}
use Rattle.form_page.proofs.MemberLaws.{is_new}
use Rattle.form_page.proofs.groups.groups_of.Goals as goal

pub enter-requires-clause-there : goal.enter-requires-clause-there
enter-requires-clause-there c =
    let ns = c.args.tree.now.nodes in
    let n = c.index-nodes-place.result in
    let below : c.loop-place.place < length ns = rw c.nodes-nodes.ensures.value at c.loop-place-test.true in
    at_own_key ns c.nodes-nodes.ensures.tree c.loop-place.place n below (rw c.nodes-nodes.ensures.value at c.index-nodes-place.is)

pub enter-requires-clause-new : goal.enter-requires-clause-new
enter-requires-clause-new c = λ owner name group.
    let ns = c.args.tree.now.nodes in
    let n = c.index-nodes-place.result in
    let below : c.loop-place.place < length ns = rw c.nodes-nodes.ensures.value at c.loop-place-test.true in
    let so_far = rw c.nodes-nodes.ensures.value at c.loop-place.invariant owner name group in
    ap (λ (ms : List Member). is_among (keys_of ms) n.key) so_far
    ∙ is_new ns c.nodes-nodes.ensures.tree c.loop-place.place n (read_there ns c.loop-place.place n below (rw c.nodes-nodes.ensures.value at c.index-nodes-place.is)) owner name
