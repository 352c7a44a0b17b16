use Rattle.std.proofs.Common.{◌≡◌, length}
use Rattle.std.specs.Prelude.{reverse}
use Rattle.form_page.specs.Editing.{AreThere, edited}
use Rattle.form_page.specs.Page.{page_of}
use Rattle.form_page.proofs.edit.make_edits.Given as goal

-- the changes that are left make of the page so far what all make of the old one
abbrev pub invariant-loop-edit : goal.invariant-loop-edit
invariant-loop-edit l = record {
  edited : edited (page_of l.tree l.files.items) (reverse l.left.items) ≡ edited (page_of l.fn.tree l.fn.files.items) l.fn.edits.items;
  there : AreThere l.tree.nodes (reverse l.left.items);
}

-- one change fewer is left
abbrev pub decreases-loop-edit : goal.decreases-loop-edit
decreases-loop-edit l = length l.left.items
