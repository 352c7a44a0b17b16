use Rattle.std.proofs.Common.{◌++◌, sym, ap, ◌∙◌, arith, append-nil}
use Rattle.std.specs.List.{flat_map}
use Rattle.std.proofs.lemmas.List.{drop_all}
use Rattle.form_tree.specs.Tree.{Nodes}
use Rattle.form_submit.specs.Steps.{key_if_invalid}
use Rattle.form_submit.proofs.InvalidLaws.{keys_by_step}
use Rattle.form_submit.proofs.invalid.invalid_among.Goals as goal

pub returns : goal.returns
returns c =
    let ns = c.args.page.now.tree.nodes in
    let keys = c.loop-node.keys.items in
    sym (append-nil keys)
    ∙ ap (λ (left : Nodes). keys ++ flat_map (key_if_invalid ns c.args.form) left) (sym (drop_all c.loop-node.node-index c.args.nodes.now (omega (arith, c.loop-node-test.false))))
    ∙ c.loop-node.invariant ∙ keys_by_step ns c.args.form c.args.nodes.now
