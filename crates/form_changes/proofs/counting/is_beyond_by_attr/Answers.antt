use Rattle.std.proofs.Common.{ap, ◌∙◌}
use Rattle.form_changes.specs.Counting.{is_type_role}
use Rattle.form_changes.proofs.AttrCounts.{beyond_by_other}
use Rattle.form_changes.proofs.counting.is_beyond_by_attr.Goals as goal

pub returns : goal.returns
returns c = beyond_by_other c.args.name.now c.args.value.now c.args.node.now c.count_with.result c.count_with.ensures (c.if-is_type_role.ensures ∙ ap is_type_role c.role_of.ensures)
