use Rattle.std.proofs.Common.{ap, ◌∙◌}
use Rattle.form_tree.specs.Attributes.{set_attr, with_attr}
use Rattle.form_tree.specs.Tree.{Nodes, with_node}
use Rattle.form_page.specs.Settling.{with_radio}
use Rattle.form_changes.specs.Changing.{with_kind}
use Rattle.form_drafts.specs.Drafts.{Draft, draft_of}
use Rattle.form_changes.specs.Values.{with_value}
use Rattle.form_acts.proofs.ChangeLaws.{kind_read, kinds_changed, type_changed, type_nowhere, type_still}
use Rattle.form_acts.proofs.OwnerLaws.{typed_owners}
use Rattle.form_acts.proofs.SingleLaws.{read_none, read_some, step_after}
use Rattle.form_acts.proofs.type_attribute.change_type.Goals as goal

pub returns-in_default : goal.returns-in_default
returns-in_default c = c.in_ok-set.ensures.draft ∙ ap (draft_of c.args.page.now) (type_nowhere c.args.page.now.tree.nodes c.args.key c.args.name.now c.args.value.now (read_none c.tree.result.now c.args.page.now.tree c.tree.ensures c.args.key c.in_default.ensures))

pub returns-then-not-changes_state : goal.returns-then-not-changes_state
returns-then-not-changes_state c =
    let found = (read_some c.tree.result.now c.args.page.now.tree c.tree.ensures c.args.key c.in-Some.node.now c.in-Some.ensures) in
    let is_to = kind_read c.args.page.now.tree.nodes c.in_ok-set.set.nodes c.args.key c.in-Some.node.now c.args.name.now c.args.value.now c.kind_of-from.result c.kind_at-to.result found (ap (λ (d : Draft). d.nodes) c.in_ok-set.ensures.draft) c.kind_at-to.ensures in
    c.in_ok-set.ensures.draft
    ∙ ap (draft_of c.args.page.now) (type_still c.args.page.now.tree.nodes c.args.key c.args.name.now c.args.value.now c.in_ok-set.ensures.tree c.in-Some.node.now found (kinds_changed c.in-Some.node.now (set_attr c.args.name.now c.args.value.now c.in-Some.node.now) c.kind_of-from.result c.kind_at-to.result _ c.kind_of-from.ensures is_to c.if-not-changes_state.ensures))

pub take_new_radio-requires : goal.take_new_radio-requires
take_new_radio-requires c =
    typed_owners c.args.page.now c.in_ok-draft.draft c.args.key c.args.name.now c.args.value.now c.requires c.kind_of-from.result c.kind_at-to.result
    (step_after c.args.page.now c.in_ok-set.set c.in_ok-draft.draft (with_attr c.args.page.now.tree.nodes c.args.key c.args.name.now c.args.value.now) (λ (ns : Nodes). with_node ns c.args.key (with_kind c.kind_of-from.result c.kind_at-to.result)) c.in_ok-set.ensures.draft c.in_ok-draft.ensures)

pub returns : goal.returns
returns c =
    let found = (read_some c.tree.result.now c.args.page.now.tree c.tree.ensures c.args.key c.in-Some.node.now c.in-Some.ensures) in
    let is_to = kind_read c.args.page.now.tree.nodes c.in_ok-set.set.nodes c.args.key c.in-Some.node.now c.args.name.now c.args.value.now c.kind_of-from.result c.kind_at-to.result found (ap (λ (d : Draft). d.nodes) c.in_ok-set.ensures.draft) c.kind_at-to.ensures in
    let kinds = step_after c.args.page.now c.in_ok-set.set c.in_ok-draft.draft (with_attr c.args.page.now.tree.nodes c.args.key c.args.name.now c.args.value.now) (λ (ns : Nodes). with_node ns c.args.key (with_kind c.kind_of-from.result c.kind_at-to.result)) c.in_ok-set.ensures.draft c.in_ok-draft.ensures in
    let radio = step_after c.args.page.now c.in_ok-draft.draft c.take_new_radio.new.draft _ (λ (ns : Nodes). with_radio ns c.args.key) kinds c.in_ok-take_new_radio.ensures in
    step_after c.args.page.now c.take_new_radio.new.draft c.sanitise.new.draft _ (λ (ns : Nodes). with_value ns c.args.key) radio c.in_ok-sanitise.ensures
    ∙ ap (draft_of c.args.page.now) (type_changed c.args.page.now.tree.nodes c.args.key c.args.name.now c.args.value.now c.in_ok-set.ensures.tree c.in-Some.node.now found c.kind_of-from.result c.kind_at-to.result c.kind_of-from.ensures is_to
    (kinds_changed c.in-Some.node.now (set_attr c.args.name.now c.args.value.now c.in-Some.node.now) c.kind_of-from.result c.kind_at-to.result _ c.kind_of-from.ensures is_to c.if-not-changes_state.ensures))
