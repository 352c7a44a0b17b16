use Rattle.std.proofs.Common.{ap}
use Rattle.form_tree.specs.declared.node.Node.{Node}
use Rattle.form_tree.specs.declared.node.State.{State}
use Rattle.form_changes.specs.Changing.{set_checked}
use Rattle.form_drafts.proofs.DraftLaws.{none_made, put_made}
use Rattle.form_drafts.proofs.marking.set_checked.Goals as goal

pub returns-in_default : goal.returns-in_default
returns-in_default c = none_made c.args.draft.now c.args.key (set_checked c.args.on) c.in_default.ensures.node

pub returns : goal.returns
returns c = put_made c.put.result c.args.draft.now c.put.new.self c.in-Some.ensures.tree c.args.key c.in-Some.node.now c.in-Some.ensures.node c.in_ok-state.state (set_checked c.args.on) (ap (λ (s : State). let m : Node = record c.in-Some.node.now { state = s } in m) c.in_ok-state.ensures) c.put.ensures
