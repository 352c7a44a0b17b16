-- The elements of a page so far, while an act is made of raw changes, step by step.
use Rattle.std.specs.Prelude.{◌≡◌, ℕ, not, Bool, false, List, [], ◌∷◌, map, filter, find, fold, Option, Some, IsSome, unwrap_or, if◌then◌else◌}
use Rattle.std.specs.BTreeMap.{BTreeMap, get}
use Rattle.std.specs.Option.{option_map, option_map_or}
use Rattle.std.specs.Ordering.{is_eq, nat_cmp}
use Rattle.form_tree.specs.declared.node.Key.{Key}
use Rattle.form_tree.specs.declared.node.Node.{Node}
use Rattle.form_tree.specs.Elements.{is_among, passes, same_key}
use Rattle.form_tree.specs.Ownership.{owner_of}
use Rattle.form_tree.specs.RadioGroup.{share_group}
use Rattle.form_tree.specs.Selects.{is_disabled_option, select_of}
use Rattle.form_tree.specs.Tree.{Nodes, at_key, empty_state, with_node}
use Rattle.form_owner.specs.declared.moves.Move.{Move}
use Rattle.form_page.specs.declared.edit.Edit.{Edit}
use Rattle.form_page.specs.declared.edit.Edit.TheVariants as edits
use Rattle.form_page.specs.declared.file.File.{File}
use Rattle.form_page.specs.Editing.{AreThere, edited, edited_key, files_after, nodes_after}
use Rattle.form_page.specs.Page.{Page}
use Rattle.form_page.specs.Settling.{now_selected, with_selectedness, with_selection}

-- a page, and its elements so far
pub record Draft : Type 0 where
  pub page : Page
  pub nodes : Nodes

abbrev pub draft_of : Page → Nodes → Draft
draft_of page ns = record { page = page; nodes = ns }

-- the page with other elements
abbrev pub page_with : Page → Nodes → Page
page_with page ns = record page { tree = record page.tree { nodes = ns } }

-- the raw changes make these elements of the page
pub record AreEditsTo (page : Page) (ns : Nodes) (edits : List Edit) : Type 0 where
  pub made : edited page edits ≡ page_with page ns
  pub there : AreThere page.tree.nodes edits

-- The node is what a raw change makes of the element of its key, and all that the change makes.
pub record IsMadeBy (ns : Nodes) (next : Node) (edit : Edit) : Type 0 where
  pub there : IsSome (at_key ns next.key)
  pub key : edited_key edit ≡ Some next.key
  pub made : nodes_after ns edit ≡ with_node ns next.key (λ n. next)
  pub files : (files : List File) → files_after files edit ≡ files

-- ---- the elements that have changed, beside those of the page

-- each by the number of its key
abbrev pub Changed : Type 0
Changed = BTreeMap ℕ Node

-- one more has changed
abbrev pub IsWith : Changed → Node → Changed → Type 0
IsWith changed next with_next = (q : ℕ) → get nat_cmp with_next q ≡ (if is_eq (nat_cmp next.key.0 q) then Some next else get nat_cmp changed q)

-- an element so far: the changed one of its key, where there is one
abbrev pub node_so_far : Changed → Node → Node
node_so_far changed n = unwrap_or (get nat_cmp changed n.key.0) n

abbrev pub nodes_so_far : Nodes → Changed → Nodes
nodes_so_far ns changed = map (node_so_far changed) ns

-- each that has changed stands at its own key, and the raw changes make what they are now
pub record AreChanges (page : Page) (changed : Changed) (edits : List Edit) : Type 0 where
  pub keys : (k : Key) (n : Node) → get nat_cmp changed k.0 ≡ Some n → n.key ≡ k
  pub makes : AreEditsTo page (nodes_so_far page.tree.nodes changed) edits

-- ---- what two lists of elements have in common

-- an element without its attributes, its text and its state
abbrev pub framed : Node → Node
framed n = record n { attrs = []; text = []; state = empty_state }

-- two lists of elements have the same keys, parents and tags
abbrev pub AreFramed : Nodes → Nodes → Type 0
AreFramed ns page = map framed ns ≡ map framed page

-- an element without its text and its state
abbrev pub bare : Node → Node
bare n = record n { text = []; state = empty_state }

-- two lists of elements differ in texts and states alone
abbrev pub AreLike : Nodes → Nodes → Type 0
AreLike ns page = map bare ns ≡ map bare page

-- each element but those of these keys differs from that of the page in its text and its state alone
abbrev pub AreLikeBut : Nodes → Nodes → List Key → Type 0
AreLikeBut ns page ks =
    (k : Key) → is_among ks k ≡ false → option_map bare (at_key ns k) ≡ option_map bare (at_key page k)

-- the key of an element whose attribute a raw change sets or takes away
abbrev pub renamed_in : Edit → List Key
renamed_in (edits.Attr k name value) = k ∷ []
renamed_in edit = []

-- no radio button group differs
abbrev pub HaveGroupsOf : Nodes → Nodes → Type 0
HaveGroupsOf ns page = (j k : Key) → share_group ns j k ≡ share_group page j k

-- no owner differs
abbrev pub HaveOwnersOf : Nodes → Nodes → Type 0
HaveOwnersOf ns page = (k : Key) → owner_of ns k ≡ owner_of page k

-- the owners that elements come to, by the numbers of their keys
abbrev pub Moved : Type 0
Moved = BTreeMap ℕ (Option Key)

-- the owner of an element: the one that it has come to, or that of the page
abbrev pub owner_so_far : Nodes → Moved → Key → Option Key
owner_so_far page moved k = unwrap_or (get nat_cmp moved k.0) (owner_of page k)

-- owners differ from those of a page by these alone
abbrev pub AreOwnedBy : Nodes → Nodes → Moved → Type 0
AreOwnedBy ns page moved = (k : Key) → owner_of ns k ≡ owner_so_far page moved k

-- the owner that an element has come to after a list of moves, of which a later one counts more
abbrev pub becomes_by : List Move → Option (Option Key) → Key → Option (Option Key)
becomes_by [] so_far k = so_far
becomes_by (m ∷ ms) so_far k = becomes_by ms (if same_key m.key k then Some m.becomes else so_far) k

-- ---- changes of several elements

-- each element of these keys changed, in their order
abbrev pub with_each : (Node → Node) → Nodes → List Key → Nodes
with_each change ns ks = fold (λ so_far k. with_node so_far k change) ns ks

-- the keys of a list but one
abbrev pub keys_but : Key → List Key → List Key
keys_but k ks = filter (λ j. not (same_key k j)) ks

-- the first of these options that is not disabled selected
abbrev pub with_first_of : Nodes → List Key → Nodes
with_first_of ns ks =
    option_map_or (λ k. with_node ns k now_selected)
    (find (λ k. not (passes (is_disabled_option ns) ns k)) ks) ns

-- ---- selectedness

-- of the options of a select that is not `multiple` the one that was selected alone (HTML, "The
-- select element")
abbrev pub with_selected : Nodes → Key → Bool → Nodes
with_selected ns k on = if on then with_selection ns k else ns

-- the selectedness setting algorithm for the select of an option
abbrev pub with_select_of : Nodes → Key → Nodes
with_select_of ns k = option_map_or (with_selectedness ns) (select_of ns k) ns
