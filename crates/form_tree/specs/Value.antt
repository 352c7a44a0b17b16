-- The value of an element.
use Rattle.std.specs.Prelude.{ℕ, ◌-◌, ◌++◌, List, [], find, Option, Some, None, codes, unwrap_or, if◌then◌else◌}
use Rattle.std.specs.List.{slice_get}
use Rattle.std.specs.Option.{option_map, option_map_or, option_and_then}
use Rattle.form_text.specs.LineEnds.{with_lf}
use Rattle.form_types.specs.declared.kind.Mode.{Mode}
use Rattle.form_types.specs.declared.kind.Mode.TheVariants as modes
use Rattle.form_types.specs.TypeTable.{mode_of}
use Rattle.form_tree.specs.declared.node.Key.{Key}
use Rattle.form_tree.specs.declared.node.Node.{Node}
use Rattle.form_tree.specs.Tree.{Nodes, at_key, attr_in}
use Rattle.form_tree.specs.Elements.{is_button, is_input, is_option, is_select, is_textarea, kind_of}
use Rattle.form_tree.specs.Selects.{is_selected, option_value, options}

-- the value attribute, or else that text
abbrev pub value_attr_or : List ℕ → Node → List ℕ
value_attr_or text n = unwrap_or (attr_in n.attrs (codes "value")) text

-- the path that stands for a file of that name
abbrev pub fake_path : List ℕ → List ℕ
fake_path name = codes "C:\\fakepath\\" ++ name

-- the name of the file of a number, counted from 1, where the names of the files are these
abbrev pub file_name : List (List ℕ) → ℕ → Option (List ℕ)
file_name names number = slice_get names (number - 1)

-- an input's value in a mode (HTML, "Common input element APIs")
abbrev pub value_in_mode : List (List ℕ) → Node → Mode → List ℕ
value_in_mode names n modes.Value = n.state.value
value_in_mode names n modes.Default = value_attr_or [] n
value_in_mode names n modes.DefaultOn = value_attr_or (codes "on") n
value_in_mode names n modes.Filename = option_map_or fake_path (option_and_then (file_name names) (slice_get n.state.files 0)) []

abbrev pub input_value : List (List ℕ) → Node → List ℕ
input_value names n = value_in_mode names n (mode_of (kind_of n))

-- the value of a select is that of its first selected option
abbrev pub select_value : Nodes → Key → List ℕ
select_value ns s = option_map_or option_value (find is_selected (options ns s)) []

-- The value of a node: of an input, by its mode; of a textarea, its raw value with its line ends
-- made LF; of a select, by its options; of a button and an option, by the attribute; else none.
abbrev pub value_at : List (List ℕ) → Nodes → Node → List ℕ
value_at names ns n =
    if is_input n then input_value names n
    else if is_textarea n then with_lf n.state.value
    else if is_select n then select_value ns n.key
    else if is_button n then value_attr_or [] n
    else if is_option n then option_value n
    else []

-- the value of the element of a key, the files having these names
abbrev pub value_of : List (List ℕ) → Nodes → Key → List ℕ
value_of names ns k = option_map_or (value_at names ns) (at_key ns k) []
