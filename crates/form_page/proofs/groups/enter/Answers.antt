use Rattle.form_page.proofs.MemberLaws.{is_group}
use Rattle.form_page.proofs.groups.enter.Goals as goal

pub enter-requires-clause-group : goal.enter-requires-clause-group
enter-requires-clause-group c = is_group c.args.tree.now.nodes c.requires.tree c.args.node.now.key c.owner_of-owner.result c.name_of-name.result.now c.owner_of-owner.ensures c.if-is_empty.ensures

pub enter-requires-clause-new : goal.enter-requires-clause-new
enter-requires-clause-new c =
    c.requires.new c.owner_of-owner.result c.name_of-name.result.now
    (is_group c.args.tree.now.nodes c.requires.tree c.args.node.now.key c.owner_of-owner.result c.name_of-name.result.now c.owner_of-owner.ensures c.if-is_empty.ensures)
