-- What a change makes of the one element that it is made to, before anything follows from it.
use Rattle.std.specs.Prelude.{ℕ, ◌==◌, ◌&&◌, ◌||◌, not, Bool, true, false, List, [], filter, Option, Some, codes, is_some, unwrap_or, if◌then◌else◌}
use Rattle.std.specs.Bool.{beq}
use Rattle.std.specs.Str.{bytes_eq}
use denote.Enum.Bare.{sameb}
use Rattle.form_types.specs.contracts.kind.Kind.{the_type as Kinds}
use Rattle.form_types.specs.declared.kind.Kind.{Kind}
use Rattle.form_types.specs.declared.kind.Kind.TheVariants as kinds
use Rattle.form_types.specs.declared.kind.Mode.{Mode}
use Rattle.form_types.specs.declared.kind.Mode.TheVariants as modes
use Rattle.form_types.specs.TypeTable.{mode_of}
use Rattle.form_tree.specs.declared.node.Node.{Node}
use Rattle.form_tree.specs.Attributes.{set_attr}
use Rattle.form_tree.specs.Elements.{has_attr, is_empty_text, is_input, is_option, is_textarea, kind_of}
use Rattle.form_tree.specs.Value.{value_attr_or}
use Rattle.form_judge.specs.Controls.{may_lack_number}
use Rattle.form_changes.specs.declared.role.Role.{Role}
use Rattle.form_changes.specs.declared.role.Role.TheVariants as roles
use Rattle.form_changes.specs.Values.{has_kept_value, sanitised_as}

-- ---- the user's edits

-- what is kept of the text as it was typed: all of it, where the state has numbers, may be without a
-- value, and the text stands for none (HTML, "The input element", user interaction that cannot be
-- represented as a value)
abbrev pub typed_text : Node → List ℕ → List ℕ
typed_text n text = if may_lack_number (kind_of n) && is_empty_text (sanitised_as n text) then text else []

-- the user's text, of an input sanitised (HTML, "Common input element APIs", "dirty value flag")
abbrev pub typed : List ℕ → Node → Node
typed text n =
    if has_kept_value n
    then record n {
      state = record n.state { value = sanitised_as n text; dirty = true; by_user = true; typed = typed_text n text };
    }
    else record n { state = record n.state { value = text; dirty = true; by_user = true } }

-- the user's files (HTML, "File Upload state")
abbrev pub chosen : List ℕ → Node → Node
chosen files n = record n { state = record n.state { files = files } }

-- ---- the script's edits

-- the value set, by mode (HTML, "Common input element APIs", setting `value`)
abbrev pub given_in : Mode → List ℕ → Node → Node
given_in modes.Value text n = record n {
  state = record n.state { value = sanitised_as n text; dirty = true; by_user = false; typed = [] };
}
given_in modes.Default text n = set_attr (codes "value") (Some text) n
given_in modes.DefaultOn text n = set_attr (codes "value") (Some text) n
given_in modes.Filename text n = record n { state = record n.state { files = [] } }

-- the same of a textarea, whose raw value it is (HTML, "The textarea element", "raw value")
abbrev pub given : List ℕ → Node → Node
given text n =
    if is_input n then given_in (mode_of (kind_of n)) text n
    else record n { state = record n.state { value = text; dirty = true; by_user = false; typed = [] } }

-- another text in an element; a textarea that is not dirty has it as its raw value (HTML, "The
-- textarea element", children changed steps)
abbrev pub retold : List ℕ → Node → Node
retold text n =
    if is_textarea n && not n.state.dirty then record n { text = text; state = record n.state { value = text } }
    else record n { text = text }

-- the custom validity message (HTML, "The constraint validation API", setCustomValidity)
abbrev pub with_message : List ℕ → Node → Node
with_message text n = record n { state = record n.state { message = text } }

-- a file that is withdrawn leaves the selected files of an element
abbrev pub without_file_number : ℕ → Node → Node
without_file_number file n =
    record n { state = record n.state { files = filter (λ number. not (number == file)) n.state.files } }

-- ---- marks

-- (HTML, "Common input element APIs", "dirty checkedness flag")
abbrev pub set_checked : Bool → Node → Node
set_checked on n = record n { state = record n.state { checked = on; dirty_checked = true } }

-- (HTML, "The option element", "dirtiness")
abbrev pub set_selected : Bool → Node → Node
set_selected on n = record n { state = record n.state { selected = on; dirty_selected = true } }

-- ---- a change of the state of an input (HTML, "The input element": when an input element's type
-- attribute changes state)

abbrev pub is_file_kind : Kind → Bool
is_file_kind kinds.File = true
is_file_kind kind = false

-- the value becomes the `value` attribute, where it is not empty
abbrev pub value_to_attr : Node → Node
value_to_attr n = if is_empty_text n.state.value then n else set_attr (codes "value") (Some n.state.value) n

-- the value is that of the `value` attribute, and neither script nor user has edited it
abbrev pub value_from_attr : Node → Node
value_from_attr n = record n { state = record n.state { value = value_attr_or [] n; dirty = false; by_user = false } }

-- the value alone, the checkedness alone, the selectedness alone
abbrev pub with_value_text : List ℕ → Node → Node
with_value_text text n = record n { state = record n.state { value = text } }

abbrev pub with_checked : Bool → Node → Node
with_checked on n = record n { state = record n.state { checked = on } }

abbrev pub with_selected_as : Bool → Node → Node
with_selected_as on n = record n { state = record n.state { selected = on } }

-- from one mode to another
abbrev pub with_mode : Mode → Mode → Node → Node
with_mode modes.Value modes.Value n = n
with_mode modes.Value modes.Default n = value_to_attr n
with_mode modes.Value modes.DefaultOn n = value_to_attr n
with_mode from modes.Value n = value_from_attr n
with_mode modes.Filename modes.Filename n = n
with_mode from modes.Filename n = with_value_text [] n
with_mode from to n = n

-- the typed text is forgotten, and the files where the state leaves or enters file
abbrev pub forgotten : Bool → Node → Node
forgotten files n = record n { state = record n.state { typed = []; files = if files then [] else n.state.files } }

-- both nodes are inputs of one state
abbrev pub same_kind : Node → Node → Bool
same_kind n m = sameb Kinds (kind_of n) (kind_of m)

-- from one state to another
abbrev pub with_kind : Kind → Kind → Node → Node
with_kind from to n = forgotten (is_file_kind from || is_file_kind to) (with_mode (mode_of from) (mode_of to) n)

-- ---- attributes

-- What an attribute is for, by its name.
abbrev pub role_of : List ℕ → Role
role_of name =
    if bytes_eq name (codes "type") then roles.Type
    else if bytes_eq name (codes "value") then roles.Value
    else if bytes_eq name (codes "min") then roles.Limit
    else if bytes_eq name (codes "max") then roles.Limit
    else if bytes_eq name (codes "step") then roles.Limit
    else if bytes_eq name (codes "checked") then roles.Checked
    else if bytes_eq name (codes "name") then roles.Name
    else if bytes_eq name (codes "id") then roles.Owner
    else if bytes_eq name (codes "form") then roles.Owner
    else if bytes_eq name (codes "selected") then roles.Selected
    else if bytes_eq name (codes "multiple") then roles.Size
    else if bytes_eq name (codes "size") then roles.Size
    else roles.Plain

-- an input whose value follows the `value` attribute (HTML, "the value content attribute", "dirty
-- value flag")
abbrev pub follows_value : Node → Bool
follows_value n = has_kept_value n && not n.state.dirty

-- whether a change after which the attribute is there, or is not, adds it or takes it away
abbrev pub is_toggled : List ℕ → Bool → Node → Bool
is_toggled name there n = not (beq (has_attr name n) there)

-- the change makes the checkedness of an input whether `checked` is there (HTML, "The input element",
-- the checked attribute, "dirty checkedness flag")
abbrev pub follows_checked : Bool → Node → Bool
follows_checked there n = is_input n && not n.state.dirty_checked && is_toggled (codes "checked") there n

-- the change makes the selectedness of an option whether `selected` is there (HTML, "The option
-- element", the selected attribute, "dirtiness")
abbrev pub follows_selected : Bool → Node → Bool
follows_selected there n = is_option n && not n.state.dirty_selected && is_toggled (codes "selected") there n

-- the change brings an input to another state
abbrev pub changes_state : List ℕ → Option (List ℕ) → Node → Bool
changes_state name value n = is_input n && not (same_kind n (set_attr name value n))

-- The node n with an attribute of that role set, or taken away where there is no value, and with what
-- follows for its own state.
abbrev pub changed_attr : Role → List ℕ → Option (List ℕ) → Node → Node
changed_attr roles.Type name value n =
    if changes_state name value n
    then with_kind (kind_of n) (kind_of (set_attr name value n)) (set_attr name value n)
    else set_attr name value n
changed_attr roles.Value name value n =
    if follows_value n then with_value_text (unwrap_or value []) (set_attr name value n) else set_attr name value n
changed_attr roles.Checked name value n =
    if follows_checked (is_some value) n then with_checked (is_some value) (set_attr name value n)
    else set_attr name value n
changed_attr roles.Selected name value n =
    if follows_selected (is_some value) n then with_selected_as (is_some value) (set_attr name value n)
    else set_attr name value n
changed_attr role name value n = set_attr name value n
