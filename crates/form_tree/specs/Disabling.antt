-- Disabled and mutable controls, and candidates for constraint validation.
use Rattle.std.specs.Prelude.{ℕ, ◌+◌, nat_lt, ◌&&◌, ◌||◌, not, Bool, true, false, [], ◌∷◌, find, Option, Some, None, codes, if◌then◌else◌}
use Rattle.std.specs.List.{list_any}
use Rattle.std.specs.Option.{option_map, option_map_or}
use Rattle.form_types.specs.declared.kind.Kind.{Kind}
use Rattle.form_types.specs.declared.kind.Kind.TheVariants as kinds
use Rattle.form_types.specs.declared.kind.Attr.TheVariants as attributes
use Rattle.form_types.specs.declared.kind.ButtonKind.{ButtonKind}
use Rattle.form_types.specs.declared.kind.ButtonKind.TheVariants as buttons
use Rattle.form_types.specs.TypeTable.{applies_to}
use Rattle.form_tree.specs.declared.node.Key.{Key}
use Rattle.form_tree.specs.declared.node.Node.{Node}
use Rattle.form_tree.specs.Tree.{Nodes}
use Rattle.form_tree.specs.Elements.{button_kind_of, has_attr, is_button, is_child_of, is_datalist, is_fieldset, is_input, is_legend, is_submittable, is_textarea, kind_of, passes, same_key}
use Rattle.form_tree.specs.Ownership.{ancestors}

-- ---- disabled (HTML, "Enabling and disabling form controls: the disabled attribute")

-- the first legend that is a child of the element
abbrev pub first_legend : Nodes → Key → Option Key
first_legend ns f = option_map (λ n. n.key) (find (λ n. is_legend n && is_child_of f n) ns)

-- the element is that legend
abbrev pub is_first_legend : Nodes → Key → Key → Bool
is_first_legend ns f k = passes is_legend ns k && option_map_or (same_key k) (first_legend ns f) false

-- A fieldset with the attribute disables what is reached from it through this child, but for the
-- child that is its first legend. (An element below the fieldset is a descendant of that legend
-- where the way to it begins with the legend and does not end there; no control is a legend.)
abbrev pub disables_through : Nodes → Key → Node → Bool
disables_through ns child f = is_fieldset f && has_attr (codes "disabled") f && not (is_first_legend ns f.key child)

-- how many of these ancestors, the nearest first, disable what is reached through the child
abbrev pub disabling_above : Nodes → Key → Nodes → ℕ
disabling_above ns child [] = 0
disabling_above ns child (f ∷ rest) = (if disables_through ns child f then 1 else 0) + disabling_above ns f.key rest

-- how many fieldsets disable the element
abbrev pub disabling_count : Nodes → Key → ℕ
disabling_count ns k = disabling_above ns k (ancestors ns k)

-- a button, input, select or textarea is disabled by its own attribute, or by a fieldset
abbrev pub is_disabled : Nodes → Key → Bool
is_disabled ns k = passes is_submittable ns k && (passes (has_attr (codes "disabled")) ns k || nat_lt 0 (disabling_count ns k))

-- ---- mutable (HTML, "The readonly attribute")

-- the control has a `readonly` attribute that applies to it
abbrev pub is_read_only : Node → Bool
is_read_only n = has_attr (codes "readonly") n && (is_textarea n || (is_input n && applies_to (kind_of n) attributes.Readonly))

-- an input or a textarea is mutable where it is neither disabled nor read-only
abbrev pub is_mutable : Nodes → Key → Bool
is_mutable ns k = passes (λ n. (is_input n || is_textarea n) && not (is_read_only n)) ns k && not (is_disabled ns k)

-- ---- candidates (HTML, "Constraint validation": "barred from constraint validation")

-- an input in one of these states is barred
abbrev pub is_barred_kind : Kind → Bool
is_barred_kind kinds.Hidden = true
is_barred_kind kinds.Reset = true
is_barred_kind kinds.Button = true
is_barred_kind kind = false

-- a button element of one of these kinds is barred
abbrev pub is_barred_button : ButtonKind → Bool
is_barred_button buttons.Submit = false
is_barred_button buttons.Reset = true
is_barred_button buttons.Button = true

-- the element is barred by its own attributes
abbrev pub is_barred_by_itself : Node → Bool
is_barred_by_itself n = (is_input n && is_barred_kind (kind_of n)) || (is_button n && is_barred_button (button_kind_of n)) || is_read_only n

-- a submittable element is barred by itself, where it is disabled, and in a datalist
abbrev pub is_barred : Nodes → Key → Bool
is_barred ns k = passes is_submittable ns k && (passes is_barred_by_itself ns k || is_disabled ns k || list_any is_datalist (ancestors ns k))

-- a submittable element that is not barred is a candidate
abbrev pub is_candidate : Nodes → Key → Bool
is_candidate ns k = passes is_submittable ns k && not (is_barred ns k)
