use Rattle.std.proofs.Common.{◌≡◌, Some, ap, subst, ◌∙◌}
use Rattle.std.proofs.lemmas.List.Elements.{All-same}
use Rattle.form_tree.specs.declared.node.Node.{Node}
use Rattle.form_tree.specs.Tree.{IsTree, Tree, at_key}
use Rattle.form_submit.proofs.InvalidLaws.{own_keys}
use Rattle.form_submit.proofs.invalid.stopping_keys.Goals as goal

pub invalid_among-requires : goal.invalid_among-requires
invalid_among-requires c =
    let page = c.args.page.now in
    let same : c.nodes.result.now ≡ page.tree.nodes =
    c.nodes.ensures.value ∙ ap (λ (t : Tree). t.nodes) c.tree-then-not-is_no_validate.ensures in
    let tree : IsTree page.tree.nodes = subst (λ (t : Tree). IsTree t.nodes) c.tree-then-not-is_no_validate.ensures c.nodes.ensures.tree in
    All-same (λ (n : Node). at_key page.tree.nodes n.key ≡ Some n) c.nodes.result.now page.tree.nodes same (own_keys page.tree.nodes tree)
