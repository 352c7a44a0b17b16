-- Form owners (HTML, "Association of controls and forms").
use Rattle.std.specs.Prelude.{ℕ, ◌&&◌, not, Bool, true, false, List, [], ◌∷◌, find, reverse, Option, Some, None, codes, if◌then◌else◌}
use Rattle.std.specs.Option.{option_map, option_map_or, option_and_then}
use Rattle.std.specs.Str.{bytes_eq}
use Rattle.form_tree.specs.declared.node.Key.{Key}
use Rattle.form_tree.specs.declared.node.Node.{Node}
use Rattle.form_tree.specs.Tree.{Nodes, is_key, attr_in, attr_of, parent_of}
use Rattle.form_tree.specs.Elements.{is_empty_text, is_form, is_listed, passes}

-- The element's ID is this text, which an empty text never is (DOM, "ID").
abbrev pub has_id : List ℕ → Node → Bool
has_id text n = not (is_empty_text text) && option_map_or (λ id. bytes_eq id text) (attr_in n.attrs (codes "id")) false

-- the ID of an element: its `id` attribute where that is not empty
abbrev pub id_of : Node → Option (List ℕ)
id_of n = option_and_then (λ id. if is_empty_text id then None else Some id) (attr_in n.attrs (codes "id"))

-- the nodes met on the way up from the one of a key, itself included, in a list turned round
abbrev pub above : Nodes → Option Key → Nodes
above [] up = []
above (n ∷ before) None = []
above (n ∷ before) (Some k) = if is_key k n then n ∷ above before n.parent else above before (Some k)

-- the ancestors of an element, the nearest first
abbrev pub ancestors : Nodes → Key → Nodes
ancestors ns k = above (reverse ns) (parent_of ns k)

abbrev pub key_if_form : Node → Option Key
key_if_form n = if is_form n then Some n.key else None

-- the first element in tree order with that ID, where it is a form
abbrev pub form_with_id : Nodes → List ℕ → Option Key
form_with_id ns text = option_and_then key_if_form (find (has_id text) ns)

-- the nearest ancestor that is a form
abbrev pub nearest_form : Nodes → Key → Option Key
nearest_form ns k = option_map (λ n. n.key) (find is_form (ancestors ns k))

-- the owner by the element's `form` attribute, where it has one, and else by its ancestors
abbrev pub owner_by : Nodes → Key → Option (List ℕ) → Option Key
owner_by ns k (Some text) = form_with_id ns text
owner_by ns k None = nearest_form ns k

-- the form owner of a listed element; no other element has one
abbrev pub owner_of : Nodes → Key → Option Key
owner_of ns k = if passes is_listed ns k then owner_by ns k (attr_of ns k (codes "form")) else None
