use Rattle.std.proofs.Common.{ℕ, List, ap, ◌∙◌}
use Rattle.form_tree.specs.declared.node.State.{State}
use Rattle.form_tree.specs.Attributes.{with_text}
use Rattle.form_acts.proofs.SingleLaws.{act_nowhere, act_text, act_text_put, retold_put, retold_still}
use Rattle.form_changes.specs.Changing.{retold}
use Rattle.form_drafts.specs.Drafts.{Draft}
use Rattle.form_acts.proofs.single.retell.Goals as goal

pub returns-in_default : goal.returns-in_default
returns-in_default c = act_nowhere c.args.page.now c.in_ok-draft.draft c.in_ok-draft.ensures.draft c.tree.result.now c.tree.ensures c.args.key (retold c.args.text.now) c.in_default.ensures

pub returns-then-not-follows_text : goal.returns-then-not-follows_text
returns-then-not-follows_text c = act_text c.args.page.now c.in_ok-draft.draft c.in_ok-draft.ensures.draft c.tree.result.now c.tree.ensures c.args.key c.in_ok-draft.ensures.tree c.in-Some.node.now c.in-Some.ensures c.put_text.new.self c.args.text.now (retold c.args.text.now) (retold_still c.args.text.now c.in-Some.node.now c.if-not-follows_text.ensures) (c.in_ok-put_text.ensures ∙ ap (λ (t : List ℕ). let x : Draft = record c.in_ok-draft.draft { nodes = with_text c.in_ok-draft.draft.nodes c.args.key t } in x) (c.in_ok-told.ensures ∙ c.as_str.ensures))

pub returns : goal.returns
returns c =
    act_text_put c.args.page.now c.in_ok-draft.draft c.in_ok-draft.ensures.draft c.tree.result.now c.tree.ensures c.args.key c.in_ok-draft.ensures.tree c.in-Some.node.now c.in-Some.ensures c.put_text.new.self c.put.new.self c.args.text.now c.in_ok-state.state (retold c.args.text.now)
    (retold_put c.args.text.now c.in-Some.node.now c.in_ok-state.state c.if-not-follows_text.ensures (c.in_ok-state.ensures ∙ ap (λ (t : List ℕ). let x : State = record c.in-Some.node.now.state { value = t } in x) (c.in_ok-value.ensures ∙ c.as_str-2.ensures)))
    (c.in_ok-put_text.ensures ∙ ap (λ (t : List ℕ). let x : Draft = record c.in_ok-draft.draft { nodes = with_text c.in_ok-draft.draft.nodes c.args.key t } in x) (c.in_ok-told.ensures ∙ c.as_str.ensures)) c.in_ok-put.ensures
