-- What an element is, by its tag and its attributes.
use Rattle.std.specs.Prelude.{ℕ, ◌==◌, ◌&&◌, not, Bool, true, false, List, [], ◌∷◌, Option, Some, None, codes, is_some}
use Rattle.std.specs.List.{list_any}
use Rattle.std.specs.Option.{option_map_or}
use Rattle.form_types.specs.declared.kind.Kind.{Kind}
use Rattle.form_types.specs.declared.kind.Kind.TheVariants as kinds
use Rattle.form_types.specs.declared.kind.ButtonKind.{ButtonKind}
use Rattle.form_types.specs.TypeTable.{kind_named, button_kind_named}
use Rattle.form_tree.specs.declared.node.Key.{Key}
use Rattle.form_tree.specs.declared.node.Node.{Node}
use Rattle.form_tree.specs.declared.node.Tag.{Tag}
use Rattle.form_tree.specs.declared.node.Tag.TheVariants as tags
use Rattle.form_tree.specs.Tree.{Nodes, at_key, attr_in}

-- ---- tests of a tag

abbrev pub is_form_tag : Tag → Bool
is_form_tag tags.Form = true
is_form_tag tag = false

abbrev pub is_fieldset_tag : Tag → Bool
is_fieldset_tag tags.Fieldset = true
is_fieldset_tag tag = false

abbrev pub is_legend_tag : Tag → Bool
is_legend_tag tags.Legend = true
is_legend_tag tag = false

abbrev pub is_input_tag : Tag → Bool
is_input_tag tags.Input = true
is_input_tag tag = false

abbrev pub is_select_tag : Tag → Bool
is_select_tag tags.Select = true
is_select_tag tag = false

abbrev pub is_optgroup_tag : Tag → Bool
is_optgroup_tag tags.Optgroup = true
is_optgroup_tag tag = false

abbrev pub is_option_tag : Tag → Bool
is_option_tag tags.Choice = true
is_option_tag tag = false

abbrev pub is_textarea_tag : Tag → Bool
is_textarea_tag tags.Textarea = true
is_textarea_tag tag = false

abbrev pub is_button_tag : Tag → Bool
is_button_tag tags.Button = true
is_button_tag tag = false

abbrev pub is_datalist_tag : Tag → Bool
is_datalist_tag tags.Datalist = true
is_datalist_tag tag = false

-- The listed elements (HTML, "Categories" of form-associated elements).
abbrev pub is_listed_tag : Tag → Bool
is_listed_tag tags.Button = true
is_listed_tag tags.Fieldset = true
is_listed_tag tags.Input = true
is_listed_tag tags.Select = true
is_listed_tag tags.Textarea = true
is_listed_tag tag = false

-- the submittable elements
abbrev pub is_submittable_tag : Tag → Bool
is_submittable_tag tags.Button = true
is_submittable_tag tags.Input = true
is_submittable_tag tags.Select = true
is_submittable_tag tags.Textarea = true
is_submittable_tag tag = false

-- the resettable elements
abbrev pub is_resettable_tag : Tag → Bool
is_resettable_tag tags.Input = true
is_resettable_tag tags.Select = true
is_resettable_tag tags.Textarea = true
is_resettable_tag tag = false

-- ---- tests of a node

abbrev pub is_form : Node → Bool
is_form n = is_form_tag n.tag

abbrev pub is_fieldset : Node → Bool
is_fieldset n = is_fieldset_tag n.tag

abbrev pub is_legend : Node → Bool
is_legend n = is_legend_tag n.tag

abbrev pub is_input : Node → Bool
is_input n = is_input_tag n.tag

abbrev pub is_select : Node → Bool
is_select n = is_select_tag n.tag

abbrev pub is_optgroup : Node → Bool
is_optgroup n = is_optgroup_tag n.tag

abbrev pub is_option : Node → Bool
is_option n = is_option_tag n.tag

abbrev pub is_textarea : Node → Bool
is_textarea n = is_textarea_tag n.tag

abbrev pub is_button : Node → Bool
is_button n = is_button_tag n.tag

abbrev pub is_datalist : Node → Bool
is_datalist n = is_datalist_tag n.tag

abbrev pub is_listed : Node → Bool
is_listed n = is_listed_tag n.tag

abbrev pub is_submittable : Node → Bool
is_submittable n = is_submittable_tag n.tag

abbrev pub is_resettable : Node → Bool
is_resettable n = is_resettable_tag n.tag

-- the element has the attribute
abbrev pub has_attr : List ℕ → Node → Bool
has_attr name n = is_some (attr_in n.attrs name)

-- the state that an input's `type` attribute names
abbrev pub kind_of : Node → Kind
kind_of n = kind_named (attr_in n.attrs (codes "type"))

-- the kind of a button element
abbrev pub button_kind_of : Node → ButtonKind
button_kind_of n = button_kind_named (attr_in n.attrs (codes "type"))

-- ---- texts and keys

abbrev pub is_empty_text : List ℕ → Bool
is_empty_text [] = true
is_empty_text (b ∷ bs) = false

-- the keys are the same
abbrev pub same_key : Key → Key → Bool
same_key j k = j.0 == k.0

-- both are none, or the same key
abbrev pub same_owner : Option Key → Option Key → Bool
same_owner None None = true
same_owner None (Some k) = false
same_owner (Some j) None = false
same_owner (Some j) (Some k) = same_key j k

-- the key stands in the list
abbrev pub is_among : List Key → Key → Bool
is_among ks k = list_any (λ j. same_key k j) ks

-- the element is a child of the one of the key
abbrev pub is_child_of : Key → Node → Bool
is_child_of up n = option_map_or (same_key up) n.parent false

-- the element of the key is there and passes the test
abbrev pub passes : (Node → Bool) → Nodes → Key → Bool
passes test ns k = option_map_or test (at_key ns k) false
