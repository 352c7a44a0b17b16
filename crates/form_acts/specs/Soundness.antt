-- What every page keeps to, from its opening on.
use Rattle.std.specs.Prelude.{◌≡◌, ◌-◌, ◌≤◌, ℕ, true, false, List, [], length, All, codes}
use Rattle.std.specs.List.{count_by}
use Rattle.form_types.specs.TypeTable.{names_email}
use Rattle.form_tree.specs.declared.node.Key.{Key}
use Rattle.form_tree.specs.declared.node.Node.{Node}
use Rattle.form_tree.specs.declared.node.Raw.{Raw}
use Rattle.form_tree.specs.Elements.{is_input, is_input_tag}
use Rattle.form_tree.specs.Ownership.{ancestors}
use Rattle.form_tree.specs.RadioGroup.{is_checked, radio_group}
use Rattle.form_tree.specs.Selects.{is_multiple, is_selected, options}
use Rattle.form_tree.specs.Tree.{Nodes, IsTree, IsTreeOfRaws, attr_in, nodes_of_raws}
use Rattle.form_page.specs.declared.file.File.{File}
use Rattle.form_page.specs.Page.{Page}
use Rattle.form_acts.specs.Refusals.{is_file, is_file_there}
use Rattle.form_changes.specs.declared.TheConstants.{MOST_ATTRIBUTES}
use Rattle.form_changes.specs.Values.{has_kept_value, sanitised_in}

-- ---- what follows from acts

-- only a dirty value is by the user, and only then is there a typed text
pub record HasSoundMarks (n : Node) : Type 0 where
  pub by_user : n.state.by_user ≡ true → n.state.dirty ≡ true
  pub typed : n.state.by_user ≡ false → n.state.typed ≡ []

-- the value of an input in the mode value is what it is sanitised to
abbrev pub HasSanitisedValue : Node → Type 0
HasSanitisedValue n = has_kept_value n ≡ true → sanitised_in n ≡ n.state.value

-- of each radio button group at most one is checked
abbrev pub HasOneChecked : Nodes → Type 0
HasOneChecked ns = (k : Key) → count_by is_checked (radio_group ns k) ≤ 1

-- of each select that is not `multiple` at most one option is selected
abbrev pub HasOneSelected : Nodes → Type 0
HasOneSelected ns = (s : Key) → is_multiple ns s ≡ false → count_by is_selected (options ns s) ≤ 1

-- Groups, selects, values and marks are settled.
pub record IsSettled (ns : Nodes) : Type 0 where
  pub tree : IsTree ns
  pub marks : All HasSoundMarks ns
  pub values : All HasSanitisedValue ns
  pub groups : HasOneChecked ns
  pub selects : HasOneSelected ns

-- ---- limits

-- the most elements that a page may have, and the greatest depth; an element at the top lies at 1
abbrev pub most_elements : ℕ
most_elements = 65536

abbrev pub most_depth : ℕ
most_depth = 256

-- What a page says of one element: it has no more attributes than it may, is no input of the type
-- email, and has files only where it is a file input, each of which is there.
pub record IsWithin (files : List File) (n : Node) : Type 0 where
  pub attributes : length n.attrs ≤ MOST_ATTRIBUTES
  pub email : is_input n ≡ true → names_email (attr_in n.attrs (codes "type")) ≡ false
  pub chosen : is_file n ≡ false → n.state.files ≡ []
  pub there : All (λ number. is_file_there files number ≡ true) n.state.files

-- A page is sound: it is a tree of no more elements and no greater depth than it may have, whose
-- elements are each within their limits, and groups, selects, values and marks are settled.
pub record IsSound (page : Page) : Type 0 where
  pub settled : IsSettled page.tree.nodes
  pub elements : length page.tree.nodes ≤ most_elements
  pub depth : (k : Key) → length (ancestors page.tree.nodes k) ≤ most_depth - 1
  pub within : All (IsWithin page.files) page.tree.nodes

-- ---- what opens to a sound page

-- an element that is read has no more attributes than it may have, and is no input of the type email
pub record IsAllowed (raw : Raw) : Type 0 where
  pub attributes : length raw.attrs ≤ MOST_ATTRIBUTES
  pub email : is_input_tag raw.tag ≡ true → names_email (attr_in raw.attrs (codes "type")) ≡ false

-- The elements are a tree, no more of them and no deeper than they may be, and each is allowed.
pub record IsOpenable (raws : List Raw) : Type 0 where
  pub tree : IsTreeOfRaws raws
  pub elements : length (nodes_of_raws raws) ≤ most_elements
  pub depth : (k : Key) → length (ancestors (nodes_of_raws raws) k) ≤ most_depth - 1
  pub allowed : All IsAllowed raws
