use Rattle.std.proofs.Common.{◌≡◌, Some, None, ap, ◌∙◌, subst}
use Rattle.form_tree.specs.Tree.{Tree, at_key}
use Rattle.form_drafts.proofs.SoFarLaws.{changed_so_far, none_so_far, same_so_far}
use Rattle.form_drafts.specs.Drafts.{Draft}
use Rattle.form_drafts.proofs.draft.Draft.node.Goals as goal

pub returns-in_default-clause-node : goal.returns-in_default-clause-node
returns-in_default-clause-node c =
    subst (λ (d : Draft). None ≡ at_key d.nodes c.args.key) c.self.view_is
    (none_so_far c.self.inside.page.now.tree.nodes c.self.inside.changed c.self.invariant.keys c.args.key (c.in_default.ensures ∙ ap (λ (t : Tree). at_key t.nodes c.args.key) c.tree.ensures))

pub returns-in-Some-get-clause-node : goal.returns-in-Some-get-clause-node
returns-in-Some-get-clause-node c =
    subst (λ (d : Draft). Some c.in-Some-get.changed.now ≡ at_key d.nodes c.args.key) c.self.view_is
    (changed_so_far c.self.inside.page.now.tree.nodes c.self.inside.changed c.self.invariant.keys c.args.key c.in-Some.node.now (c.in-Some.ensures ∙ ap (λ (t : Tree). at_key t.nodes c.args.key) c.tree.ensures) c.in-Some-get.changed.now c.in-Some-get.ensures.value)

pub returns-in-None-clause-node : goal.returns-in-None-clause-node
returns-in-None-clause-node c =
    subst (λ (d : Draft). Some c.in-Some.node.now ≡ at_key d.nodes c.args.key) c.self.view_is
    (same_so_far c.self.inside.page.now.tree.nodes c.self.inside.changed c.self.invariant.keys c.args.key c.in-Some.node.now (c.in-Some.ensures ∙ ap (λ (t : Tree). at_key t.nodes c.args.key) c.tree.ensures) c.in-None.ensures.value)
