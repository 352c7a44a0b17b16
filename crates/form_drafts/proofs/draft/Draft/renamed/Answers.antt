use Rattle.std.proofs.Common.{subst, arith}
use Rattle.form_drafts.proofs.JoinedLaws.{renamed_like}
use Rattle.form_drafts.specs.Drafts.{AreLikeBut, Draft, nodes_so_far}
use Rattle.form_drafts.proofs.draft.Draft.renamed.Goals as goal

pub returns : goal.returns
returns c =
    subst (λ (d : Draft). AreLikeBut d.nodes d.page.tree.nodes c.loop-edit.keys.items) c.self.view_is
    (renamed_like c.self.inside.page.now (nodes_so_far c.self.inside.page.now.tree.nodes c.self.inside.changed) c.self.inside.edits.items c.as_slice-edit-items.result.now c.loop-edit.keys.items c.loop-edit.edit-index
    c.self.invariant.makes c.as_slice-edit-items.ensures.value (omega (arith, c.loop-edit-test.false)) c.loop-edit.invariant)
