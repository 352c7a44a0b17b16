-- An attribute set or taken away (DOM, "set an attribute value" and "remove an attribute").
use Rattle.std.specs.Prelude.{ℕ, not, List, [], ◌∷◌, ◌++◌, filter, map, Option, Some, None, if◌then◌else◌}
use Rattle.std.specs.List.{list_any}
use Rattle.form_tree.specs.declared.node.Key.{Key}
use Rattle.form_tree.specs.declared.node.Node.{Node}
use Rattle.form_tree.specs.Tree.{Nodes, is_named, with_node}

-- The list with the attribute of that name set, or with none of that name: one that is there keeps
-- its place, a new one goes last.
abbrev pub attrs_with : List (List ℕ × List ℕ) → List ℕ → Option (List ℕ) → List (List ℕ × List ℕ)
attrs_with attrs name None = filter (λ attr. not (is_named name attr)) attrs
attrs_with attrs name (Some value) =
    if list_any (is_named name) attrs then map (λ attr. if is_named name attr then (attr.0, value) else attr) attrs
    else attrs ++ (name, value) ∷ []

-- the node with that attribute set or taken away
abbrev pub set_attr : List ℕ → Option (List ℕ) → Node → Node
set_attr name value n = record n { attrs = attrs_with n.attrs name value }

-- the list with that attribute of one element set or taken away
abbrev pub with_attr : Nodes → Key → List ℕ → Option (List ℕ) → Nodes
with_attr ns k name value = with_node ns k (set_attr name value)

-- the list with another text for that element
abbrev pub with_text : Nodes → Key → List ℕ → Nodes
with_text ns k text = with_node ns k (λ n. record n { text = text })

-- the list with other attributes for that element
abbrev pub with_attrs : Nodes → Key → List (List ℕ × List ℕ) → Nodes
with_attrs ns k attrs = with_node ns k (λ n. record n { attrs = attrs })
