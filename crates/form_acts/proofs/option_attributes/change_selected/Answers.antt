use Rattle.std.proofs.Common.{Bool, cond, is_some, ap, ◌∙◌}
use Rattle.form_tree.specs.Elements.{passes}
use Rattle.form_tree.specs.Tree.{Nodes, Tree, with_node}
use Rattle.form_changes.specs.declared.role.Role.TheVariants as roles
use Rattle.form_drafts.specs.Drafts.{draft_of, with_select_of, with_selected}
use Rattle.form_changes.specs.Changing.{changed_attr, follows_selected}
use Rattle.form_acts.proofs.SingleLaws.{step_after, step_still}
use Rattle.form_acts.proofs.option_attributes.change_selected.Goals as goal

pub returns-then-not-follows_selected_at : goal.returns-then-not-follows_selected_at
returns-then-not-follows_selected_at c =
    step_still c.args.page.now c.in_ok-draft.draft (with_node c.args.page.now.tree.nodes c.args.key (changed_attr roles.Selected c.args.name.now c.args.value.now)) (with_select_of (with_selected (with_node c.args.page.now.tree.nodes c.args.key (changed_attr roles.Selected c.args.name.now c.args.value.now)) c.args.key (is_some c.args.value.now)) c.args.key) (passes (follows_selected (is_some c.args.value.now)) c.args.page.now.tree.nodes c.args.key) c.in_ok-draft.ensures (c.if-not-follows_selected_at.ensures ∙ ap (λ (t : Tree). passes (follows_selected (is_some c.args.value.now)) t.nodes c.args.key) c.tree.ensures)

pub returns : goal.returns
returns c =
    let taken = step_after c.args.page.now c.in_ok-draft.draft c.take_selected.new.draft (with_node c.args.page.now.tree.nodes c.args.key (changed_attr roles.Selected c.args.name.now c.args.value.now)) (λ (ns : Nodes). with_selected ns c.args.key c.is_some-there.result) c.in_ok-draft.ensures c.in_ok-take_selected.ensures in
    step_after c.args.page.now c.take_selected.new.draft c.settle_select_of.new.draft _ (λ (ns : Nodes). with_select_of ns c.args.key) taken c.in_ok-settle_select_of.ensures
    ∙ ap (λ (there : Bool). draft_of c.args.page.now (with_select_of (with_selected (with_node c.args.page.now.tree.nodes c.args.key (changed_attr roles.Selected c.args.name.now c.args.value.now)) c.args.key there) c.args.key)) c.is_some-there.ensures
    ∙ ap (λ (b : Bool). draft_of c.args.page.now (cond b (with_select_of (with_selected (with_node c.args.page.now.tree.nodes c.args.key (changed_attr roles.Selected c.args.name.now c.args.value.now)) c.args.key (is_some c.args.value.now)) c.args.key) (with_node c.args.page.now.tree.nodes c.args.key (changed_attr roles.Selected c.args.name.now c.args.value.now)))) (c.if-not-follows_selected_at.ensures ∙ ap (λ (t : Tree). passes (follows_selected (is_some c.args.value.now)) t.nodes c.args.key) c.tree.ensures)
