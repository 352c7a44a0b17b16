use Rattle.std.proofs.Common.{◌||◌}
use Rattle.form_tree.specs.declared.node.Node.{Node}
use Rattle.form_tree.specs.Elements.{passes}
use Rattle.form_tree.specs.Tree.{Nodes, with_node}
use Rattle.form_changes.specs.declared.role.Role.TheVariants as roles
use Rattle.form_changes.specs.Changing.{changed_attr, follows_value}
use Rattle.form_changes.specs.Values.{is_range, with_value}
use Rattle.form_acts.proofs.SingleLaws.{read_passes, step_made, step_still}
use Rattle.form_acts.proofs.value_attributes.change_value.Goals as goal

pub returns-then-not-is_value_seen : goal.returns-then-not-is_value_seen
returns-then-not-is_value_seen c = step_still c.args.page.now c.in_ok-draft.draft (with_node c.args.page.now.tree.nodes c.args.key (changed_attr roles.Value c.args.name.now c.args.value.now)) (with_value (with_node c.args.page.now.tree.nodes c.args.key (changed_attr roles.Value c.args.name.now c.args.value.now)) c.args.key) (passes (λ (n : Node). follows_value n || is_range n) c.args.page.now.tree.nodes c.args.key) c.in_ok-draft.ensures (read_passes c.tree.result.now c.args.page.now.tree c.tree.ensures (λ (n : Node). follows_value n || is_range n) c.args.key _ c.if-not-is_value_seen.ensures)

pub returns : goal.returns
returns c = step_made c.args.page.now c.in_ok-draft.draft c.sanitise.new.draft (with_node c.args.page.now.tree.nodes c.args.key (changed_attr roles.Value c.args.name.now c.args.value.now)) (λ (ns : Nodes). with_value ns c.args.key) (passes (λ (n : Node). follows_value n || is_range n) c.args.page.now.tree.nodes c.args.key) c.in_ok-draft.ensures (read_passes c.tree.result.now c.args.page.now.tree c.tree.ensures (λ (n : Node). follows_value n || is_range n) c.args.key _ c.if-not-is_value_seen.ensures) c.in_ok-sanitise.ensures
