use Rattle.std.proofs.Common.{List, arith, sym, ap, subst, ◌++◌, ◌∙◌}
use Rattle.std.specs.List.{filter}
use Rattle.std.proofs.lemmas.List.{append-nil, drop_all}
use Rattle.form_tree.specs.declared.node.Key.{Key}
use Rattle.form_tree.specs.Elements.{is_resettable, passes}
use Rattle.form_tree.specs.Tree.{IsTree, Tree}
use Rattle.form_page.specs.Invalid.{is_owned_by}
use Rattle.form_page.proofs.OwnedLaws.{passing_found}
use Rattle.form_drafts.proofs.resetting.resettables.Goals as goal

pub returns : goal.returns
returns c =
    let ns = c.args.page.now.tree.nodes in
    let rest = drop_all c.loop-key.key-index c.owned-owned.result.now (omega (arith, c.loop-key-test.false)) in
    sym (append-nil c.loop-key.keys.items) ∙ sym (ap (λ (ks : List Key). c.loop-key.keys.items ++ filter (passes is_resettable ns) ks) rest)
    ∙ c.loop-key.invariant ∙ ap (filter (passes is_resettable ns)) c.owned-owned.ensures
    ∙ passing_found ns is_resettable (is_owned_by ns c.args.form) (subst (λ (t : Tree). IsTree t.nodes) c.tree.ensures c.len.ensures.tree)
