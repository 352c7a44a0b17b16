use Rattle.form_tree.specs.Elements.{passes}
use Rattle.form_tree.specs.Tree.{Nodes, with_node}
use Rattle.form_changes.specs.declared.role.Role.TheVariants as roles
use Rattle.form_changes.specs.Changing.{changed_attr}
use Rattle.form_changes.specs.Values.{is_range, with_value}
use Rattle.form_acts.proofs.SingleLaws.{read_passes, step_made, step_still}
use Rattle.form_acts.proofs.value_attributes.change_limit.Goals as goal

pub returns-then-not-is_range_at : goal.returns-then-not-is_range_at
returns-then-not-is_range_at c = step_still c.args.page.now c.in_ok-draft.draft (with_node c.args.page.now.tree.nodes c.args.key (changed_attr roles.Limit c.args.name.now c.args.value.now)) (with_value (with_node c.args.page.now.tree.nodes c.args.key (changed_attr roles.Limit c.args.name.now c.args.value.now)) c.args.key) (passes is_range c.args.page.now.tree.nodes c.args.key) c.in_ok-draft.ensures.draft (read_passes c.tree.result.now c.args.page.now.tree c.tree.ensures is_range c.args.key _ c.if-not-is_range_at.ensures)

pub returns : goal.returns
returns c = step_made c.args.page.now c.in_ok-draft.draft c.sanitise.new.draft (with_node c.args.page.now.tree.nodes c.args.key (changed_attr roles.Limit c.args.name.now c.args.value.now)) (λ (ns : Nodes). with_value ns c.args.key) (passes is_range c.args.page.now.tree.nodes c.args.key) c.in_ok-draft.ensures.draft (read_passes c.tree.result.now c.args.page.now.tree c.tree.ensures is_range c.args.key _ c.if-not-is_range_at.ensures) c.in_ok-sanitise.ensures
