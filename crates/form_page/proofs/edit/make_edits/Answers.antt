use Rattle.std.proofs.Common.{ap}
use Rattle.form_tree.specs.Tree.{Tree}
use Rattle.form_page.specs.Page.{page_of}
use Rattle.form_page.proofs.EditLaws.{edit_made, edits_step, still_there}
use Rattle.form_page.proofs.edit.make_edits.Goals as goal

pub loop-edit-preserved : goal.loop-edit-preserved
loop-edit-preserved c = record {
  edited = edits_step (page_of c.loop-edit.tree c.loop-edit.files.items) (page_of c.make_edit.new.tree c.make_edit.new.files.items) _ c.loop-edit.left.items c.pop.new.self.items c.in-Some.edit c.in-Some.ensures.items
      (edit_made c.loop-edit.tree c.make_edit.new.tree c.loop-edit.files.items c.make_edit.new.files.items c.in-Some.edit c.in_ok-make_edit.ensures.tree c.in_ok-make_edit.ensures.files) c.loop-edit.invariant.edited;
  there = still_there c.loop-edit.tree.nodes c.make_edit.new.tree.nodes c.loop-edit.left.items c.pop.new.self.items c.in-Some.edit c.in-Some.ensures.items
      (ap (λ (t : Tree). t.nodes) c.in_ok-make_edit.ensures.tree) c.loop-edit.invariant.there;
}
