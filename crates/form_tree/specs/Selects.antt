-- The options of a select (HTML, "The select element" and "The option element").
use Rattle.std.specs.Prelude.{ℕ, ◌&&◌, ◌||◌, ◌==◌, not, Bool, false, List, [], ◌∷◌, filter, find, map, reverse, Option, Some, None, codes, if◌then◌else◌}
use Rattle.std.specs.List.{list_any, slice_get}
use Rattle.std.specs.Option.{option_and_then, option_map_or}
use Rattle.form_text.specs.Integers.{non_negative_integer}
use Rattle.form_text.specs.Whitespace.{stripped_and_collapsed}
use Rattle.form_tree.specs.declared.node.Key.{Key}
use Rattle.form_tree.specs.declared.node.Node.{Node}
use Rattle.form_tree.specs.Tree.{Nodes, attr_in, attr_of, parent_of}
use Rattle.form_tree.specs.Elements.{has_attr, is_child_of, is_empty_text, is_optgroup, is_option, is_select, passes, same_key}
use Rattle.form_tree.specs.RadioGroup.{is_required}

-- ---- which options a select has

-- the select above an option whose parent this is: the parent, or the parent of an optgroup
abbrev pub select_above : Nodes → Option Key → Option Key
select_above ns None = None
select_above ns (Some up) =
    if passes is_select ns up then Some up
    else if passes is_optgroup ns up
    then option_and_then (λ top. if passes is_select ns top then Some top else None) (parent_of ns up)
    else None

-- the select that an option belongs to
abbrev pub select_of : Nodes → Key → Option Key
select_of ns k = if passes is_option ns k then select_above ns (parent_of ns k) else None

-- the element is one of the select's options
abbrev pub is_option_of : Nodes → Key → Key → Bool
is_option_of ns s k = option_map_or (same_key s) (select_of ns k) false

-- the options of a select, in tree order ("list of options")
abbrev pub options : Nodes → Key → Nodes
options ns s = filter (λ n. is_option_of ns s n.key) ns

-- ---- what an option is

abbrev pub is_selected : Node → Bool
is_selected n = n.state.selected

-- the value of an option: its attribute, or else its text, stripped and collapsed
abbrev pub option_value_by : List ℕ → Option (List ℕ) → List ℕ
option_value_by text (Some value) = value
option_value_by text None = stripped_and_collapsed text

abbrev pub option_value : Node → List ℕ
option_value n = option_value_by n.text (attr_in n.attrs (codes "value"))

abbrev pub is_disabled_optgroup : Node → Bool
is_disabled_optgroup n = is_optgroup n && has_attr (codes "disabled") n

-- an option is disabled by its own attribute, or by that of an optgroup whose child it is
abbrev pub is_disabled_option : Nodes → Node → Bool
is_disabled_option ns n = has_attr (codes "disabled") n || option_map_or (passes is_disabled_optgroup ns) n.parent false

-- ---- what a select is

abbrev pub is_multiple : Nodes → Key → Bool
is_multiple ns s = passes (has_attr (codes "multiple")) ns s

-- The display size: the `size` attribute where it is a number, else 4 with `multiple` and else 1.
abbrev pub display_size : Nodes → Key → ℕ
display_size ns s = option_map_or (λ size. size) (option_and_then non_negative_integer (attr_of ns s (codes "size"))) (if is_multiple ns s then 4 else 1)

-- both are options of one select, and it is not `multiple`
abbrev pub share_select : Nodes → Key → Key → Bool
share_select ns j k = option_map_or (λ s. is_option_of ns s k && not (is_multiple ns s)) (select_of ns j) false

-- a required select of one choice, shown in one line, may have a placeholder
abbrev pub may_have_placeholder : Nodes → Key → Bool
may_have_placeholder ns s = passes is_required ns s && not (is_multiple ns s) && (display_size ns s == 1)

-- an option with an empty value that is a child of the select itself
abbrev pub key_if_placeholder : Key → Node → Option Key
key_if_placeholder s n = if is_empty_text (option_value n) && is_child_of s n then Some n.key else None

-- the placeholder label option: the first option, where it is such a one
abbrev pub placeholder : Nodes → Key → Option Key
placeholder ns s = if may_have_placeholder ns s then option_and_then (key_if_placeholder s) (slice_get (options ns s) 0) else None

-- the option is selected, and is not the placeholder
abbrev pub is_choice_made : Option Key → Node → Bool
is_choice_made placeholder n = is_selected n && not (option_map_or (same_key n.key) placeholder false)

-- The select suffers from being missing: it is required, and no option is selected but the
-- placeholder (HTML, "The select element", the required attribute).
abbrev pub is_select_missing : Nodes → Key → Bool
is_select_missing ns s = passes is_required ns s && not (list_any (is_choice_made (placeholder ns s)) (options ns s))

-- ---- the selectedness setting algorithm

-- An option as the algorithm sees it: its key, whether it is disabled, whether it is selected.
abbrev pub Marked : Type 0
Marked = Key × Bool × Bool

-- what stays selected where this is the last selected option, if there is one: it alone, or
-- in a select of one line the first option that is not disabled
abbrev pub settled_by : ℕ → List Marked → Option Marked → List Key
settled_by size options (Some last) = last.0 ∷ []
settled_by size options None = if size == 1 then option_map_or (λ first. first.0 ∷ []) (find (λ o. not o.1) options) [] else []

-- The options that are selected after the algorithm, for a select with that `multiple` and that
-- display size (HTML, "The select element", "selectedness setting algorithm").
abbrev pub settled_options : Bool → ℕ → List Marked → List Key
settled_options multiple size options =
    if multiple then map (λ o. o.0) (filter (λ o. o.2) options)
    else settled_by size options (find (λ o. o.2) (reverse options))

abbrev pub marked_option : Nodes → Node → Marked
marked_option ns n = (n.key, is_disabled_option ns n, is_selected n)

-- the options of a select that are selected after the algorithm
abbrev pub settled : Nodes → Key → List Key
settled ns s = settled_options (is_multiple ns s) (display_size ns s) (map (marked_option ns) (options ns s))
