-- The raw changes of a page, in order. Nothing follows from them but what is seen.
use Rattle.std.specs.Prelude.{ℕ, zero, suc, false, List, [], ◌∷◌, Option, Some, None, IsSome, IfSome}
use Rattle.std.specs.List.{All}
use Rattle.form_tree.specs.declared.node.Key.{Key}
use Rattle.form_tree.specs.Attributes.{with_attr, with_text}
use Rattle.form_tree.specs.Tree.{Nodes, place_of, with_state}
use Rattle.form_page.specs.declared.edit.Edit.{Edit}
use Rattle.form_page.specs.declared.edit.Edit.TheVariants.{Attr, Gone, Put, Text}
use Rattle.form_page.specs.declared.file.File.{File}
use Rattle.form_page.specs.Page.{Page}

-- the file at a place is no longer there
abbrev pub without_file_at : List File → ℕ → List File
without_file_at [] place = []
without_file_at (file ∷ files) zero = record file { there = false } ∷ files
without_file_at (file ∷ files) (suc place) = file ∷ without_file_at files place

-- the file of a number, counted from 1, is no longer there
abbrev pub without_file : List File → ℕ → List File
without_file files zero = files
without_file files (suc place) = without_file_at files place

-- the nodes after one change
abbrev pub nodes_after : Nodes → Edit → Nodes
nodes_after ns (Attr k name value) = with_attr ns k name value
nodes_after ns (Text k text) = with_text ns k text
nodes_after ns (Put k state) = with_state ns k state
nodes_after ns (Gone file) = ns

-- the files after one change
abbrev pub files_after : List File → Edit → List File
files_after files (Attr k name value) = files
files_after files (Text k text) = files
files_after files (Put k state) = files
files_after files (Gone file) = without_file files file

-- the page after one change: an attribute set or taken away, another text, another state, or a file
-- that is gone
abbrev pub after_edit : Page → Edit → Page
after_edit page edit = record {
  tree = record page.tree { nodes = nodes_after page.tree.nodes edit };
  files = files_after page.files edit;
}

-- the page after a list of changes
abbrev pub edited : Page → List Edit → Page
edited page [] = page
edited page (edit ∷ edits) = edited (after_edit page edit) edits

-- the element that is changed, if one is
abbrev pub edited_key : Edit → Option Key
edited_key (Attr k name value) = Some k
edited_key (Text k text) = Some k
edited_key (Put k state) = Some k
edited_key (Gone file) = None

-- each element that is changed is in the tree
abbrev pub AreThere : Nodes → List Edit → Type 0
AreThere ns edits = All (λ edit. IfSome (edited_key edit) (λ k. IsSome (place_of ns k))) edits
