-- The entry list of a form (HTML, "Constructing the entry list").
use Rattle.std.specs.Prelude.{ℕ, ◌+◌, ◌&&◌, ◌||◌, not, Bool, true, false, List, [], ◌∷◌, ◌++◌, length, filter, map, min, Option, Some, None, codes, decimal, unwrap_or, if◌then◌else◌}
use Rattle.std.specs.List.{flat_map, list_any, sum_by}
use Rattle.std.specs.Option.{option_map_or}
use Rattle.std.specs.Str.{str_eq_ignore_ascii_case}
use Rattle.form_types.specs.declared.kind.Kind.{Kind}
use Rattle.form_types.specs.declared.kind.Kind.TheVariants as kinds
use Rattle.form_types.specs.TypeTable as types
use Rattle.form_tree.specs.declared.node.Key.{Key}
use Rattle.form_tree.specs.declared.node.Node.{Node}
use Rattle.form_tree.specs.Disabling.{is_disabled}
use Rattle.form_tree.specs.Elements.{is_button, is_datalist, is_empty_text, is_input, is_select, is_submittable, kind_of, same_key}
use Rattle.form_tree.specs.Ownership.{ancestors}
use Rattle.form_tree.specs.RadioGroup.{is_checked}
use Rattle.form_tree.specs.Selects.{is_disabled_option, is_selected, options}
use Rattle.form_tree.specs.Tree.{Nodes, attr_in}
use Rattle.form_encode.specs.declared.entry.Entry.{Entry}
use Rattle.form_encode.specs.declared.entry.Given.{Given}
use Rattle.form_encode.specs.declared.entry.Given.TheVariants.{Text, File}
use Rattle.form_page.specs.Invalid.{is_owned_by}
use Rattle.form_page.specs.Page.{Page, name_of_file}
use Rattle.form_page.specs.Views.{is_checkable, value_of}
use Rattle.form_entries.specs.declared.gift.Gift.{Gift}
use Rattle.form_entries.specs.declared.gift.Gift.TheVariants.{Nothing, Coordinates, Options, Files, Charset, Value}

-- ---- which controls are passed over

abbrev pub is_image_kind : Kind → Bool
is_image_kind kinds.Image = true
is_image_kind kind = false

abbrev pub is_file_kind : Kind → Bool
is_file_kind kinds.File = true
is_file_kind kind = false

abbrev pub is_hidden_kind : Kind → Bool
is_hidden_kind kinds.Hidden = true
is_hidden_kind kind = false

-- an input of a state that passes the test
abbrev pub is_input_of : (Kind → Bool) → Node → Bool
is_input_of test n = is_input n && test (kind_of n)

-- a button: a button element, or an input in a state of buttons (HTML, "Categories")
abbrev pub is_any_button : Node → Bool
is_any_button n = is_button n || is_input_of types.is_button n

abbrev pub is_in_datalist : Nodes → Node → Bool
is_in_datalist ns n = list_any is_datalist (ancestors ns n.key)

-- The control is passed over: it stands in a datalist, it is disabled, it is a button and not the
-- submitter, or it is a checkbox or a radio button that is not checked.
abbrev pub is_passed_over : Nodes → Option Key → Node → Bool
is_passed_over ns submitter n =
    is_disabled ns n.key
    || (is_any_button n && not (option_map_or (same_key n.key) submitter false))
    || (is_checkable n && not (is_checked n))
    || is_in_datalist ns n

-- a submittable element that the form owns and that is not passed over
abbrev pub takes_part : Nodes → Key → Option Key → Node → Bool
takes_part ns form submitter n = is_submittable n && is_owned_by ns form n && not (is_passed_over ns submitter n)

-- ---- what a control gives

-- the name of an element; empty where it has none
abbrev pub name_in : Node → List ℕ
name_in n = unwrap_or (attr_in n.attrs (codes "name")) []

-- a hidden input of the name `_charset_`
abbrev pub is_charset : Node → Bool
is_charset n = is_input_of is_hidden_kind n && str_eq_ignore_ascii_case (name_in n) (codes "_charset_")

-- what a control with a name gives that is no image button
abbrev pub gift_of_named : Node → Gift
gift_of_named n =
    if is_select n then Options
    else if is_input_of is_file_kind n then Files
    else if is_charset n then Charset
    else Value

-- An image button gives coordinates, also without a name; any other control without a name gives
-- nothing.
abbrev pub gift_of : Nodes → Key → Option Key → Node → Gift
gift_of ns form submitter n =
    if not (takes_part ns form submitter n) then Nothing
    else if is_input_of is_image_kind n then Coordinates
    else if is_empty_text (name_in n) then Nothing
    else gift_of_named n

-- ---- entries

-- an entry with a text
abbrev pub text_entry : List ℕ → List ℕ → Entry
text_entry name text = record { name = name; value = Text text }

-- the name of an image button's coordinate on that axis
abbrev pub coordinate_name : List ℕ → List ℕ → List ℕ
coordinate_name name axis = if is_empty_text name then axis else name ++ (codes "." ++ axis)

-- the two coordinates of where an image button was clicked
abbrev pub coordinate_entries : List ℕ → ℕ × ℕ → List Entry
coordinate_entries name at =
    text_entry (coordinate_name name (codes "x")) (decimal at.0)
    ∷ text_entry (coordinate_name name (codes "y")) (decimal at.1) ∷ []

-- the value of a control or an option
abbrev pub value_text : Page → Key → List ℕ
value_text page k = unwrap_or (value_of page k) []

-- an option that is selected and not disabled
abbrev pub is_sent : Nodes → Node → Bool
is_sent ns n = is_selected n && not (is_disabled_option ns n)

-- each selected option of a select that is not disabled, under the select's name
abbrev pub option_entries : Page → Node → List Entry
option_entries page n =
    map (λ option. text_entry (name_in n) (value_text page option.key))
    (filter (is_sent page.tree.nodes) (options page.tree.nodes n.key))

-- the file of a number, under that name
abbrev pub file_entry : Page → List ℕ → ℕ → Entry
file_entry page name number =
    record { name = name; value = File (Some number) (unwrap_or (name_of_file page.files number) []) }

-- each selected file of an input, or, where none is, one empty file with an empty name
abbrev pub file_entries : Page → List ℕ → List ℕ → List Entry
file_entries page name [] = record { name = name; value = File None [] } ∷ []
file_entries page name (number ∷ numbers) = map (file_entry page name) (number ∷ numbers)

-- the entries of an element
abbrev pub entries_by : Page → ℕ × ℕ → Node → Gift → List Entry
entries_by page at n Nothing = []
entries_by page at n Coordinates = coordinate_entries (name_in n) at
entries_by page at n Options = option_entries page n
entries_by page at n Files = file_entries page (name_in n) n.state.files
entries_by page at n Charset = text_entry (name_in n) (codes "UTF-8") ∷ []
entries_by page at n Value = text_entry (name_in n) (value_text page n.key) ∷ []

abbrev pub entries_of : Page → Key → Option Key → ℕ × ℕ → Node → List Entry
entries_of page form submitter at n = entries_by page at n (gift_of page.tree.nodes form submitter n)

-- the entry list of a form: what each element gives, in tree order
abbrev pub entry_list : Page → Key → Option Key → ℕ × ℕ → List Entry
entry_list page form submitter at = flat_map (entries_of page form submitter at) page.tree.nodes

-- ---- lengths

-- the bytes of a text value, or of a file's name
abbrev pub given_length : Given → ℕ
given_length (Text text) = length text
given_length (File number name) = length name

abbrev pub entry_length : Entry → ℕ
entry_length entry = length entry.name + given_length entry.value

-- the bytes of all names, text values and file names
abbrev pub entries_length : List Entry → ℕ
entries_length entries = sum_by entry_length entries

-- the most bytes that names, values and files of one submission may have together
abbrev pub most_bytes : ℕ
most_bytes = 67_108_864

-- a number as 64 bits hold it: a greater one stands as the greatest
abbrev pub capped : ℕ → ℕ
capped number = min number 18_446_744_073_709_551_615
