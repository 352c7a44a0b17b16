-- Where a change of the state of an input makes its value an attribute (HTML, "The input element":
-- when an input element's type attribute changes state).
use Rattle.std.specs.Prelude.{ℕ, ◌&&◌, not, Bool, true, false, List, Option, Some, None, if◌then◌else◌}
use Rattle.form_types.specs.declared.kind.Kind.{Kind}
use Rattle.form_types.specs.declared.kind.Mode.{Mode}
use Rattle.form_types.specs.declared.kind.Mode.TheVariants as modes
use Rattle.form_types.specs.TypeTable.{mode_of}
use Rattle.form_tree.specs.declared.node.Node.{Node}
use Rattle.form_tree.specs.Attributes.{set_attr}
use Rattle.form_tree.specs.Elements.{is_empty_text, is_input, kind_of}
use Rattle.form_changes.specs.declared.role.Role.{Role}
use Rattle.form_changes.specs.declared.role.Role.TheVariants as roles
use Rattle.form_changes.specs.Changing.{changes_state}

abbrev pub is_type_role : Role → Bool
is_type_role roles.Type = true
is_type_role role = false

-- the value of an input in that mode is an attribute
abbrev pub is_by_attr : Mode → Bool
is_by_attr modes.Default = true
is_by_attr modes.DefaultOn = true
is_by_attr mode = false

-- the script sets the value of the element by its attribute
abbrev pub is_given_by_attr : Node → Bool
is_given_by_attr n = is_input n && is_by_attr (mode_of (kind_of n))

-- the value goes from the state into the attribute
abbrev pub is_to_attr : Mode → Mode → Bool
is_to_attr modes.Value to = is_by_attr to
is_to_attr from to = false

-- from one state to another a value that is not empty becomes the attribute
abbrev pub moves_value : Kind → Kind → Node → Bool
moves_value from to n = is_to_attr (mode_of from) (mode_of to) && not (is_empty_text n.state.value)

-- that change of the `type` attribute does so
abbrev pub type_moves_value : List ℕ → Option (List ℕ) → Node → Bool
type_moves_value name value n = changes_state name value n && moves_value (kind_of n) (kind_of (set_attr name value n)) n

-- the value that becomes the attribute, where it does
abbrev pub value_moved : Kind → Kind → Node → Option (List ℕ)
value_moved from to n = if moves_value from to n then Some n.state.value else None
