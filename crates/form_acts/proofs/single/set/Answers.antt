use Rattle.std.proofs.Common.{ℕ, List, Some, ap₂, sym, ◌∙◌}
use Rattle.form_tree.specs.Attributes.{set_attr}
use Rattle.form_changes.proofs.AttrCounts.{given_attrs, given_state}
use Rattle.form_acts.proofs.SingleLaws.{act_attr, act_nowhere, act_put, own_made}
use Rattle.form_changes.specs.Changing.{given}
use Rattle.form_acts.proofs.single.set.Goals as goal

pub returns-in_default : goal.returns-in_default
returns-in_default c = act_nowhere c.args.page.now c.in_ok-draft.draft c.in_ok-draft.ensures.draft c.tree.result.now c.tree.ensures c.args.key (given c.args.text.now) c.in_default.ensures

pub returns-then-is_given_by_attr : goal.returns-then-is_given_by_attr
returns-then-is_given_by_attr c =
    act_attr c.args.page.now c.in_ok-draft.draft c.in_ok-draft.ensures.draft c.tree.result.now c.tree.ensures c.args.key c.in_ok-draft.ensures.tree c.in-Some.node.now c.in-Some.ensures c.with_attr.result c.in_ok-name.name (Some c.in_ok-value.value) (given c.args.text.now)
    (ap₂ (λ (x y : List ℕ). set_attr x (Some y) c.in-Some.node.now) c.in_ok-name.ensures c.in_ok-value.ensures ∙ sym (given_attrs c.args.text.now c.in-Some.node.now (sym c.if-is_given_by_attr.ensures)))
    c.with_attr.ensures

pub returns : goal.returns
returns c = act_put c.args.page.now c.in_ok-draft.draft c.in_ok-draft.ensures.draft c.tree.result.now c.tree.ensures c.args.key c.in_ok-draft.ensures.tree c.in-Some.node.now c.in-Some.ensures c.put.new.self c.in_ok-state.state (given c.args.text.now) (own_made c.in-Some.node.now (given c.args.text.now c.in-Some.node.now) c.in_ok-state.state (given_state c.args.text.now c.in-Some.node.now (sym c.if-is_given_by_attr.ensures)) c.in_ok-state.ensures) c.in_ok-put.ensures
