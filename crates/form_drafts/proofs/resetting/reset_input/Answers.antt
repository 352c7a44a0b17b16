use Rattle.std.proofs.Common.{ap}
use Rattle.form_tree.specs.declared.node.Node.{Node}
use Rattle.form_tree.specs.declared.node.State.{State}
use Rattle.form_drafts.specs.Resetting.{reset_input}
use Rattle.form_drafts.proofs.DraftLaws.{none_made, put_made}
use Rattle.form_drafts.proofs.resetting.reset_input.Goals as goal

pub returns-in_default : goal.returns-in_default
returns-in_default c = none_made c.args.draft.now c.args.key reset_input c.in_default.ensures.node

pub returns : goal.returns
returns c = put_made c.put.result c.args.draft.now c.put.new.self c.in-Some.ensures.tree c.args.key c.in-Some.node.now c.in-Some.ensures.node c.in_ok-state.state reset_input (ap (λ (s : State). let m : Node = record c.in-Some.node.now { state = s } in m) c.in_ok-state.ensures) c.put.ensures
