-- The options of a select, place by place in tree order.
use Rattle.std.specs.Prelude.{ℕ, Bool, [], ◌∷◌, drop, filter, Option, Some, None, if◌then◌else◌}
use Rattle.std.specs.List.{slice_get}
use Rattle.std.specs.Option.{option_and_then, option_map_or}
use Rattle.form_tree.specs.declared.node.Key.{Key}
use Rattle.form_tree.specs.declared.node.Node.{Node}
use Rattle.form_tree.specs.Elements.{is_empty_text}
use Rattle.form_tree.specs.Selects.{is_option_of, option_value}
use Rattle.form_tree.specs.Tree.{Nodes, place_of}

-- the options of a select that stand at a place or behind it
abbrev pub options_from : Nodes → Key → ℕ → Nodes
options_from ns s place = filter (λ n. is_option_of ns s n.key) (drop place ns)

-- the option of a select that stands at a place, if there is one
abbrev pub options_at : Nodes → Key → ℕ → Nodes
options_at ns s place = option_map_or (λ n. if is_option_of ns s n.key then n ∷ [] else []) (slice_get ns place) []

-- an element or none as a list
abbrev pub as_list : Option Node → Nodes
as_list None = []
as_list (Some n) = n ∷ []

-- the place of the parent of the element at a place
abbrev pub parent_place : Nodes → ℕ → Option ℕ
parent_place ns place = option_and_then (λ n. option_and_then (place_of ns) n.parent) (slice_get ns place)

-- the option has an empty value
abbrev pub has_empty_value : Node → Bool
has_empty_value n = is_empty_text (option_value n)
