use Rattle.std.specs.List.{list_any}
use Rattle.std.proofs.Common.{ℕ, List, ◌==◌, ap, ◌∙◌}
use Rattle.form_tree.specs.declared.node.Node.{Node}
use Rattle.form_tree.specs.declared.node.State.{State}
use Rattle.form_changes.specs.Changing.{without_file_number}
use Rattle.form_drafts.proofs.DraftLaws.{none_made, put_made, still_made}
use Rattle.form_acts.proofs.SingleLaws.{file_stays}
use Rattle.form_acts.proofs.single.leave.Goals as goal

pub returns-in_default : goal.returns-in_default
returns-in_default c = none_made c.args.draft.now c.args.key (without_file_number c.args.file) c.in_default.ensures.node

pub returns-then-not-has_number : goal.returns-then-not-has_number
returns-then-not-has_number c =
    still_made c.args.draft.now c.in-Some.ensures.tree c.args.key c.in-Some.node.now c.in-Some.ensures.node (without_file_number c.args.file)
    (file_stays c.args.file c.in-Some.node.now (c.if-not-has_number.ensures ∙ ap (λ (xs : List ℕ). list_any (λ number. number == c.args.file) xs) c.as_slice.ensures))

pub returns : goal.returns
returns c = put_made c.put.result c.args.draft.now c.put.new.self c.in-Some.ensures.tree c.args.key c.in-Some.node.now c.in-Some.ensures.node c.in_ok-state.state (without_file_number c.args.file) (ap (λ (s : State). let m : Node = record c.in-Some.node.now { state = s } in m) c.in_ok-state.ensures) c.put.ensures
