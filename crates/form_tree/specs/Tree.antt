-- The elements of a page as a list of nodes in tree order (DOM, "Trees").
use Rattle.std.specs.Prelude.{◌≡◌, ◌≢◌, ℕ, ◌+◌, ◌<◌, ◌≤◌, ◌==◌, Bool, false, List, [], length, map, Option, Some, IsSome, IfSome, if◌then◌else◌}
use Rattle.std.specs.List.{find, position, slice_get, enumerate_from, All, AllPairs}
use Rattle.std.specs.Option.{option_map, option_and_then}
use Rattle.std.specs.Str.{bytes_eq}
use Rattle.form_tree.specs.declared.node.Key.{Key}
use Rattle.form_tree.specs.declared.node.Node.{Node}
use Rattle.form_tree.specs.declared.node.Raw.{Raw}
use Rattle.form_tree.specs.declared.node.State.{State}
use Rattle.form_tree.specs.declared.node.Tag.{Tag}

-- nodes in tree order
abbrev pub Nodes : Type 0
Nodes = List Node

-- A tree: its nodes, and the greatest key number that was ever given. No key is used again, also
-- where its node is gone, so the next one is above that number.
pub record Tree : Type 0 where
  pub nodes : Nodes
  pub used : ℕ

-- ---- what may be asked of a list of nodes

-- the node has this key
abbrev pub is_key : Key → Node → Bool
is_key k n = k.0 == n.key.0

-- the key of the node at a place
abbrev pub key_at : Nodes → ℕ → Option Key
key_at ns place = option_map (λ n. n.key) (slice_get ns place)

-- the place of a key
abbrev pub place_of : Nodes → Key → Option ℕ
place_of ns k = position (is_key k) ns

-- the node of a key
abbrev pub at_key : Nodes → Key → Option Node
at_key ns k = find (is_key k) ns

-- what the element of a key is
abbrev pub tag_of : Nodes → Key → Option Tag
tag_of ns k = option_map (λ n. n.tag) (at_key ns k)

-- the parent's key; none for an element at the top
abbrev pub parent_of : Nodes → Key → Option Key
parent_of ns k = option_and_then (λ n. n.parent) (at_key ns k)

-- its attributes, each with its name and its value
abbrev pub attrs_of : Nodes → Key → Option (List (List ℕ × List ℕ))
attrs_of ns k = option_map (λ n. n.attrs) (at_key ns k)

-- the text that stands directly in it
abbrev pub text_of : Nodes → Key → Option (List ℕ)
text_of ns k = option_map (λ n. n.text) (at_key ns k)

-- what it keeps beside its attributes
abbrev pub state_of : Nodes → Key → Option State
state_of ns k = option_map (λ n. n.state) (at_key ns k)

-- the attribute has this name
abbrev pub is_named : List ℕ → List ℕ × List ℕ → Bool
is_named name attr = bytes_eq attr.0 name

-- the value of the attribute of a name in a list of attributes
abbrev pub attr_in : List (List ℕ × List ℕ) → List ℕ → Option (List ℕ)
attr_in attrs name = option_map (λ attr. attr.1) (find (is_named name) attrs)

-- the value of an attribute of a node
abbrev pub attr_of : Nodes → Key → List ℕ → Option (List ℕ)
attr_of ns k name = option_and_then (λ attrs. attr_in attrs name) (attrs_of ns k)

-- ---- changes

-- the list with the one node of the key changed
abbrev pub with_node : Nodes → Key → (Node → Node) → Nodes
with_node ns k change = map (λ n. if is_key k n then change n else n) ns

-- the list with another state for that node
abbrev pub with_state : Nodes → Key → State → Nodes
with_state ns k state = with_node ns k (λ n. record n { state = state })

-- ---- tree order

-- A list of nodes, each with the place of its parent or none, is in tree order: a parent stands
-- before its children, and what stands between a parent and a child of it is below that parent,
-- that is, has its own parent there: at that parent's place or behind it. So the descendants of
-- a node stand directly behind it without a gap (DOM, "tree order").
pub record IsInTreeOrder (parents : List (Option ℕ)) : Type 0 where
  pub before : (i p : ℕ) → slice_get parents i ≡ Some (Some p) → p < i
  pub no_gap : (i p between : ℕ) → slice_get parents i ≡ Some (Some p) → p < between → between < i
      → (q : ℕ) × (p ≤ q) × (slice_get parents between ≡ Some (Some q))

-- the keys of the nodes with those of their parents
abbrev pub Shape : Type 0
Shape = List (Key × Option Key)

-- the shape of a list of nodes
abbrev pub shape_of : Nodes → Shape
shape_of ns = map (λ n. (n.key, n.parent)) ns

-- the place of a key in a shape
abbrev pub place_in : Shape → Key → Option ℕ
place_in s k = position (λ entry. k.0 == entry.0.0) s

-- the place of each node's parent, or none
abbrev pub parent_places : Shape → List (Option ℕ)
parent_places s = map (λ entry. option_and_then (place_in s) entry.1) s

-- keys all differ and are from 1, each parent is there, and the list is in tree order
pub record IsTreeShape (s : Shape) : Type 0 where
  pub keys_differ : AllPairs (λ a b. a ≢ b) (map (λ entry. entry.0) s)
  pub keys_from_one : All (λ entry. 1 ≤ entry.0.0) s
  pub parents_there : All (λ entry. IfSome entry.1 (λ k. IsSome (place_in s k))) s
  pub in_order : IsInTreeOrder (parent_places s)

-- no two attributes have one name
abbrev pub NamesDiffer : List (List ℕ × List ℕ) → Type 0
NamesDiffer attrs = AllPairs (λ a b. a ≢ b) (map (λ attr. attr.0) attrs)

-- The nodes of a tree: their shape is that of a tree, and the attributes of each have different names.
pub record IsTree (ns : Nodes) : Type 0 where
  pub shape : IsTreeShape (shape_of ns)
  pub names : All (λ n. NamesDiffer n.attrs) ns

-- every key that is there was given: its number is not above the greatest
abbrev pub AreGiven : ℕ → Shape → Type 0
AreGiven used s = All (λ entry. entry.0.0 ≤ used) s

-- ---- a tree that a page is read into

-- no text, no file, and no mark that is set
abbrev pub empty_state : State
empty_state = record {
  value = [];
  dirty = false;
  by_user = false;
  typed = [];
  checked = false;
  dirty_checked = false;
  selected = false;
  dirty_selected = false;
  files = [];
  message = [];
}

-- keys are given from 1 on, in the order of the places
abbrev pub first_key : ℕ → Key
first_key place = record { 0 = place + 1 }

-- the node of the raw at a place
abbrev pub node_of_raw : ℕ → Raw → Node
node_of_raw place raw = record {
  key = first_key place;
  parent = option_map first_key raw.parent;
  tag = raw.tag;
  attrs = raw.attrs;
  text = raw.text;
  state = empty_state;
}

-- the nodes of the raws, each with the key of its place and an empty state
abbrev pub nodes_of_raws : List Raw → Nodes
nodes_of_raws raws = map (λ entry. node_of_raw entry.0 entry.1) (enumerate_from 0 raws)

-- the tree of the raws: one key was given to each
abbrev pub tree_of_raws : List Raw → Tree
tree_of_raws raws = record { nodes = nodes_of_raws raws; used = length raws }

-- what a list of raws must be
pub record IsTreeOfRaws (raws : List Raw) : Type 0 where
  pub in_order : IsInTreeOrder (map (λ raw. raw.parent) raws)
  pub names : All (λ raw. NamesDiffer raw.attrs) raws
