use Rattle.std.proofs.Common.{◌&&◌, is_some, sym, ap, ◌∙◌}
use Rattle.form_tree.specs.Elements.{passes}
use Rattle.form_tree.specs.Tree.{Nodes, Tree, with_node}
use Rattle.form_page.specs.Settling.{with_radio}
use Rattle.form_changes.specs.declared.role.Role.TheVariants as roles
use Rattle.form_changes.specs.Changing.{changed_attr, follows_checked}
use Rattle.form_drafts.specs.Drafts.{draft_of}
use Rattle.form_acts.proofs.ChangeLaws.{radios_if}
use Rattle.form_acts.proofs.OwnerLaws.{checked_groups}
use Rattle.form_acts.proofs.SingleLaws.{step_made, step_still}
use Rattle.form_acts.proofs.radio_attributes.change_checked.Goals as goal

pub returns-then-not-checks : goal.returns-then-not-checks
returns-then-not-checks c =
    step_still c.args.page.now c.in_ok-draft.draft (with_node c.args.page.now.tree.nodes c.args.key (changed_attr roles.Checked c.args.name.now c.args.value.now)) (with_radio (with_node c.args.page.now.tree.nodes c.args.key (changed_attr roles.Checked c.args.name.now c.args.value.now)) c.args.key) (passes (follows_checked (is_some c.args.value.now)) c.args.page.now.tree.nodes c.args.key && is_some c.args.value.now) c.in_ok-draft.ensures (c.if-not-checks.ensures ∙ ap (λ (t : Tree). passes (follows_checked (is_some c.args.value.now)) t.nodes c.args.key && is_some c.args.value.now) c.tree.ensures)
    ∙ ap (draft_of c.args.page.now) (sym (radios_if (passes (follows_checked (is_some c.args.value.now)) c.args.page.now.tree.nodes c.args.key && is_some c.args.value.now) (with_node c.args.page.now.tree.nodes c.args.key (changed_attr roles.Checked c.args.name.now c.args.value.now)) c.args.key))

pub take_radio-requires : goal.take_radio-requires
take_radio-requires c = checked_groups c.args.page.now c.in_ok-draft.draft c.args.key c.args.name.now c.args.value.now c.requires c.in_ok-draft.ensures

pub returns : goal.returns
returns c =
    step_made c.args.page.now c.in_ok-draft.draft c.take_radio.new.draft (with_node c.args.page.now.tree.nodes c.args.key (changed_attr roles.Checked c.args.name.now c.args.value.now)) (λ (ns : Nodes). with_radio ns c.args.key) (passes (follows_checked (is_some c.args.value.now)) c.args.page.now.tree.nodes c.args.key && is_some c.args.value.now) c.in_ok-draft.ensures (c.if-not-checks.ensures ∙ ap (λ (t : Tree). passes (follows_checked (is_some c.args.value.now)) t.nodes c.args.key && is_some c.args.value.now) c.tree.ensures) c.in_ok-take_radio.ensures
    ∙ ap (draft_of c.args.page.now) (sym (radios_if (passes (follows_checked (is_some c.args.value.now)) c.args.page.now.tree.nodes c.args.key && is_some c.args.value.now) (with_node c.args.page.now.tree.nodes c.args.key (changed_attr roles.Checked c.args.name.now c.args.value.now)) c.args.key))
