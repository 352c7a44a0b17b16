use Rattle.std.proofs.Common.{subst}
use Rattle.form_tree.specs.Tree.{IsTree, Tree}
use Rattle.form_drafts.proofs.SoFarLaws.{framed_so_far, tree_so_far}
use Rattle.form_drafts.specs.Drafts.{AreFramed, Draft}
use Rattle.form_drafts.proofs.draft.Draft.page.Goals as goal

pub returns-clause-framed : goal.returns-clause-framed
returns-clause-framed c = subst (λ (d : Draft). AreFramed d.nodes d.page.tree.nodes) c.self.view_is (framed_so_far c.self.inside.page.now c.self.inside.changed c.self.inside.edits.items c.self.invariant)

pub returns-clause-tree : goal.returns-clause-tree
returns-clause-tree c = subst (λ (d : Draft). IsTree d.nodes) c.self.view_is (tree_so_far c.self.inside.page.now c.self.inside.changed c.self.inside.edits.items c.self.invariant (subst (λ (t : Tree). IsTree t.nodes) c.tree.ensures c.len.ensures.tree))
