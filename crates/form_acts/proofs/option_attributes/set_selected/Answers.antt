use Rattle.std.proofs.Common.{ap, ◌∙◌}
use Rattle.form_tree.specs.Attributes.{with_attr}
use Rattle.form_tree.specs.Tree.{Nodes, with_state}
use Rattle.form_changes.specs.declared.role.Role.TheVariants as roles
use Rattle.form_changes.specs.Changing.{changed_attr}
use Rattle.form_drafts.specs.Drafts.{draft_of}
use Rattle.form_acts.proofs.ChangeLaws.{attr_nowhere, selected_followed, selected_still}
use Rattle.form_acts.proofs.SingleLaws.{read_none, read_some, step_after}
use Rattle.form_acts.proofs.option_attributes.set_selected.Goals as goal

pub returns-in_default : goal.returns-in_default
returns-in_default c = c.in_ok-draft.ensures.draft ∙ ap (draft_of c.args.page.now) (attr_nowhere c.args.page.now.tree.nodes c.args.key c.args.name.now c.args.value.now (changed_attr roles.Selected c.args.name.now c.args.value.now) (read_none c.tree.result.now c.args.page.now.tree c.tree.ensures c.args.key c.in_default.ensures))

pub returns-then-not-follows_selected : goal.returns-then-not-follows_selected
returns-then-not-follows_selected c =
    c.in_ok-draft.ensures.draft ∙ ap (draft_of c.args.page.now) (selected_still c.args.page.now.tree.nodes c.args.key c.args.name.now c.args.value.now c.in_ok-draft.ensures.tree c.in-Some.node.now (read_some c.tree.result.now c.args.page.now.tree c.tree.ensures c.args.key c.in-Some.node.now c.in-Some.ensures) c.is_some-there.result c.is_some-there.ensures c.if-not-follows_selected.ensures)

pub returns : goal.returns
returns c =
    step_after c.args.page.now c.in_ok-draft.draft c.put.new.self (with_attr c.args.page.now.tree.nodes c.args.key c.args.name.now c.args.value.now) (λ (ns : Nodes). with_state ns c.args.key c.in_ok-state.state) c.in_ok-draft.ensures.draft c.in_ok-put.ensures
    ∙ ap (draft_of c.args.page.now) (selected_followed c.args.page.now.tree.nodes c.args.key c.args.name.now c.args.value.now c.in_ok-draft.ensures.tree c.in-Some.node.now (read_some c.tree.result.now c.args.page.now.tree c.tree.ensures c.args.key c.in-Some.node.now c.in-Some.ensures) c.is_some-there.result c.is_some-there.ensures c.in_ok-state.state c.if-not-follows_selected.ensures c.in_ok-state.ensures)
