use Rattle.std.proofs.Common.{Bool, ap, sym}
use Rattle.form_tree.specs.declared.node.Node.{Node}
use Rattle.form_tree.specs.declared.node.State.{State}
use Rattle.form_page.specs.Settling.{off}
use Rattle.form_drafts.proofs.DraftLaws.{none_made, put_made, still_made}
use Rattle.form_drafts.proofs.radios.uncheck.Goals as goal

pub returns-in_default : goal.returns-in_default
returns-in_default c = none_made c.args.draft.now c.args.key off c.in_default.ensures.node

pub returns-then-not-node : goal.returns-then-not-node
returns-then-not-node c =
    still_made c.args.draft.now c.in-Some.ensures.tree c.args.key c.in-Some.node.now c.in-Some.ensures.node off
    (ap (λ (b : Bool). let m : Node = record c.in-Some.node.now { state = record c.in-Some.node.now.state { checked = b } } in m) (sym c.if-not-node.true))

pub returns : goal.returns
returns c = put_made c.put.result c.args.draft.now c.put.new.self c.in-Some.ensures.tree c.args.key c.in-Some.node.now c.in-Some.ensures.node c.in_ok-state.state off (ap (λ (s : State). let m : Node = record c.in-Some.node.now { state = s } in m) c.in_ok-state.ensures) c.put.ensures
