use Rattle.form_tree.specs.Tree.{Nodes, with_node}
use Rattle.form_page.specs.Settling.{with_selectedness}
use Rattle.form_changes.specs.declared.role.Role.TheVariants as roles
use Rattle.form_changes.specs.Changing.{changed_attr}
use Rattle.form_acts.proofs.SingleLaws.{step_after}
use Rattle.form_acts.proofs.option_attributes.change_size.Goals as goal

pub returns : goal.returns
returns c = step_after c.args.page.now c.in_ok-draft.draft c.settle.new.draft (with_node c.args.page.now.tree.nodes c.args.key (changed_attr roles.Size c.args.name.now c.args.value.now)) (λ (ns : Nodes). with_selectedness ns c.args.key) c.in_ok-draft.ensures.draft c.in_ok-settle.ensures
