use Rattle.std.proofs.Common.{sym, ap, ◌∙◌, subst}
use Rattle.form_page.specs.Editing.{nodes_after}
use Rattle.form_drafts.specs.Drafts.{Draft, IsMadeBy, draft_of}
use Rattle.form_drafts.proofs.SoFarLaws.{changes_back, changes_still, nodes_made, taken_back}
use Rattle.form_drafts.proofs.draft.Draft.change.Goals as goal

pub invariant_of-self-in-Ok : goal.invariant_of-self-in-Ok
invariant_of-self-in-Ok c =
    changes_still c.self.inside.page.now c.self.inside.changed c.self.inside.edits.items c.self.invariant c.enter.new.changed c.args.next c.in-Ok.ensures.ok c.args.edit
    (subst (λ (d : Draft). IsMadeBy d.nodes c.args.next c.args.edit) (sym c.self.view_is) c.requires) c.push.new.edits.items c.in_ok-push.ensures.ok

pub invariant_of-self-in-Err : goal.invariant_of-self-in-Err
invariant_of-self-in-Err c =
    changes_back c.self.inside.page.now c.self.inside.changed c.enter.new.changed c.self.inside.edits.items c.take_back.new.edits.items c.self.invariant c.in-Err.ensures.err
    (taken_back c.self.inside.edits.items c.push.new.edits.items c.take_back.new.edits.items c.args.edit _ c.in_ok-push.ensures.ok c.push.new.edits.ok.0 c.take_back.ensures)

pub returns-in-Ok : goal.returns-in-Ok
returns-in-Ok c =
    ap (draft_of c.self.inside.page.now)
    (nodes_made c.self.inside.page.now c.self.inside.changed c.self.inside.edits.items c.self.invariant c.enter.new.changed c.args.next c.in-Ok.ensures.ok c.args.edit (subst (λ (d : Draft). IsMadeBy d.nodes c.args.next c.args.edit) (sym c.self.view_is) c.requires))
    ∙ ap (λ (d : Draft). let x : Draft = record d { nodes = nodes_after d.nodes c.args.edit } in x) c.self.view_is
