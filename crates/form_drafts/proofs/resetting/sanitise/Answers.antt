use Rattle.std.proofs.Common.{Bool, cond, ap, sym, ◌∙◌}
use Rattle.form_tree.specs.declared.node.Node.{Node}
use Rattle.form_tree.specs.declared.node.State.{State}
use Rattle.form_changes.specs.Values.{sanitised_in, with_sanitised_value}
use Rattle.form_drafts.proofs.DraftLaws.{none_made, put_made, still_made}
use Rattle.form_drafts.proofs.resetting.sanitise.Goals as goal

abbrev kept : Node → Bool → Node
kept n b = cond b (record n { state = record n.state { value = sanitised_in n } }) n

pub returns-in_default : goal.returns-in_default
returns-in_default c = none_made c.args.draft.now c.args.key with_sanitised_value c.in_default.ensures.node

pub returns-then-not-has_kept_value : goal.returns-then-not-has_kept_value
returns-then-not-has_kept_value c = still_made c.args.draft.now c.in-Some.ensures.tree c.args.key c.in-Some.node.now c.in-Some.ensures.node with_sanitised_value (ap (kept c.in-Some.node.now) (sym c.if-not-has_kept_value.ensures))

pub returns : goal.returns
returns c =
    put_made c.put.result c.args.draft.now c.put.new.self c.in-Some.ensures.tree c.args.key c.in-Some.node.now c.in-Some.ensures.node c.in_ok-state.state with_sanitised_value
    (ap (λ (s : State). let m : Node = record c.in-Some.node.now { state = s } in m) c.in_ok-state.ensures ∙ ap (kept c.in-Some.node.now) c.if-not-has_kept_value.ensures) c.put.ensures
