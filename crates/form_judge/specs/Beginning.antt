-- What each element of a page begins with.
use Rattle.std.specs.Prelude.{ℕ, ◌&&◌, Bool, List, [], codes, if◌then◌else◌}
use Rattle.form_types.specs.declared.kind.Mode.{Mode}
use Rattle.form_types.specs.declared.kind.Mode.TheVariants as modes
use Rattle.form_types.specs.TypeTable.{mode_of}
use Rattle.form_states.specs.States.{sanitised}
use Rattle.form_tree.specs.declared.node.Node.{Node}
use Rattle.form_tree.specs.declared.node.State.{State}
use Rattle.form_tree.specs.Elements.{has_attr, is_input, is_option, is_textarea, kind_of}
use Rattle.form_tree.specs.Tree.{empty_state}
use Rattle.form_tree.specs.Value.{value_attr_or}
use Rattle.form_judge.specs.Controls.{own_limits}

-- The value of an input whose state has that mode: its attribute or empty, sanitised in the mode
-- value (HTML, "The input element", "value sanitization algorithm" and "the value content attribute
-- gives the default value").
abbrev pub first_input_value : Node → Mode → List ℕ
first_input_value n modes.Value = sanitised (kind_of n) (own_limits n) (value_attr_or [] n)
first_input_value n modes.Default = value_attr_or [] n
first_input_value n modes.DefaultOn = value_attr_or [] n
first_input_value n modes.Filename = value_attr_or [] n

-- the value that an element begins with; of a textarea, its text (HTML, "The textarea element", the
-- raw value)
abbrev pub first_value : Node → List ℕ
first_value n =
    if is_input n then first_input_value n (mode_of (kind_of n))
    else if is_textarea n then n.text
    else []

-- an input with the attribute begins checked (HTML, "The input element", the checked attribute)
abbrev pub begins_checked : Node → Bool
begins_checked n = is_input n && has_attr (codes "checked") n

-- an option with the attribute begins selected (HTML, "The option element", the selected attribute)
abbrev pub begins_selected : Node → Bool
begins_selected n = is_option n && has_attr (codes "selected") n

-- The state that an element begins with: no mark is set, and nothing was typed or chosen.
abbrev pub first_state : Node → State
first_state n = record empty_state {
  value = first_value n;
  checked = begins_checked n;
  selected = begins_selected n;
}
