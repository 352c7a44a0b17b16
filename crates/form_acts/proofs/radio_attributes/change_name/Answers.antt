use Rattle.form_tree.specs.Tree.{Nodes, with_node}
use Rattle.form_page.specs.Settling.{with_radio}
use Rattle.form_changes.specs.declared.role.Role.TheVariants as roles
use Rattle.form_changes.specs.Changing.{changed_attr}
use Rattle.form_acts.proofs.OwnerLaws.{named_owners}
use Rattle.form_acts.proofs.SingleLaws.{step_after}
use Rattle.form_acts.proofs.radio_attributes.change_name.Goals as goal

pub take_new_radio-requires : goal.take_new_radio-requires
take_new_radio-requires c = named_owners c.args.page.now c.in_ok-named.named c.args.key c.args.name.now c.args.value.now c.requires c.in_ok-named.ensures.draft

pub returns : goal.returns
returns c = step_after c.args.page.now c.in_ok-named.named c.take_new_radio.new.draft (with_node c.args.page.now.tree.nodes c.args.key (changed_attr roles.Name c.args.name.now c.args.value.now)) (λ (ns : Nodes). with_radio ns c.args.key) c.in_ok-named.ensures.draft c.in_ok-take_new_radio.ensures
