use Rattle.form_changes.specs.Changing.{typed}
use Rattle.form_acts.proofs.SingleLaws.{act_nowhere, act_put, own_made, typed_own}
use Rattle.form_acts.proofs.single.user.Goals as goal

pub returns-in_default : goal.returns-in_default
returns-in_default c = act_nowhere c.args.page.now c.in_ok-draft.draft c.in_ok-draft.ensures.draft c.tree.result.now c.tree.ensures c.args.key (typed c.args.text.now) c.in_default.ensures

pub returns : goal.returns
returns c = act_put c.args.page.now c.in_ok-draft.draft c.in_ok-draft.ensures.draft c.tree.result.now c.tree.ensures c.args.key c.in_ok-draft.ensures.tree c.in-Some.node.now c.in-Some.ensures c.put.new.self c.in_ok-state.state (typed c.args.text.now) (own_made c.in-Some.node.now (typed c.args.text.now c.in-Some.node.now) c.in_ok-state.state (typed_own c.args.text.now c.in-Some.node.now) c.in_ok-state.ensures) c.in_ok-put.ensures
