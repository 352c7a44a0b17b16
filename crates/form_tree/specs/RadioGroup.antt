-- The radio button group (HTML, "Radio Button state").
use Rattle.std.specs.Prelude.{ℕ, ◌&&◌, ◌||◌, not, Bool, true, false, List, [], filter, codes, unwrap_or}
use Rattle.std.specs.List.{list_any}
use Rattle.std.specs.Str.{bytes_eq}
use Rattle.form_types.specs.declared.kind.Kind.{Kind}
use Rattle.form_types.specs.declared.kind.Kind.TheVariants as kinds
use Rattle.form_tree.specs.declared.node.Key.{Key}
use Rattle.form_tree.specs.declared.node.Node.{Node}
use Rattle.form_tree.specs.Tree.{Nodes, attr_of}
use Rattle.form_tree.specs.Elements.{has_attr, is_empty_text, is_input, kind_of, passes, same_key, same_owner}
use Rattle.form_tree.specs.Ownership.{owner_of}

abbrev pub is_radio_kind : Kind → Bool
is_radio_kind kinds.Radio = true
is_radio_kind kind = false

-- an input in the state radio
abbrev pub is_radio : Node → Bool
is_radio n = is_input n && is_radio_kind (kind_of n)

-- the element's name; empty where it has none
abbrev pub name_of : Nodes → Key → List ℕ
name_of ns k = unwrap_or (attr_of ns k (codes "name")) []

-- both have the same name, which is not empty
abbrev pub same_name : List ℕ → List ℕ → Bool
same_name a b = not (is_empty_text a) && bytes_eq a b

-- Both are radio buttons, and one is in the group of the other: it is the other, or it has the
-- same form owner, or like it none, and the same name, which is not empty.
abbrev pub share_group : Nodes → Key → Key → Bool
share_group ns j k =
    passes is_radio ns j && passes is_radio ns k
    && (same_key j k || (same_owner (owner_of ns j) (owner_of ns k) && same_name (name_of ns j) (name_of ns k)))

-- the radio button group of an element, itself included, in tree order; of another element, none
abbrev pub radio_group : Nodes → Key → Nodes
radio_group ns k = filter (λ n. share_group ns k n.key) ns

abbrev pub is_checked : Node → Bool
is_checked n = n.state.checked

-- the control has the `required` attribute
abbrev pub is_required : Node → Bool
is_required n = has_attr (codes "required") n

-- The group lacks a required choice: a member is required, and none is checked.
abbrev pub is_group_missing : Nodes → Key → Bool
is_group_missing ns k = list_any is_required (radio_group ns k) && not (list_any is_checked (radio_group ns k))
