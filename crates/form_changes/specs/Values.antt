-- The value that an input keeps in the mode value, and its sanitisation (HTML, "Common input element
-- APIs", and "The input element", "value sanitization algorithm").
use Rattle.std.specs.Prelude.{ℕ, ◌&&◌, Bool, true, false, List, if◌then◌else◌}
use Rattle.form_types.specs.declared.kind.Kind.{Kind}
use Rattle.form_types.specs.declared.kind.Kind.TheVariants as kinds
use Rattle.form_types.specs.declared.kind.Mode.{Mode}
use Rattle.form_types.specs.declared.kind.Mode.TheVariants as modes
use Rattle.form_types.specs.TypeTable.{mode_of}
use Rattle.form_states.specs.States.{sanitised}
use Rattle.form_tree.specs.declared.node.Key.{Key}
use Rattle.form_tree.specs.declared.node.Node.{Node}
use Rattle.form_tree.specs.Elements.{is_input, kind_of}
use Rattle.form_tree.specs.Tree.{Nodes, with_node}
use Rattle.form_judge.specs.Controls.{own_limits}

abbrev pub is_value_mode : Mode → Bool
is_value_mode modes.Value = true
is_value_mode mode = false

-- an input in the mode value: its value is what is kept for it
abbrev pub has_kept_value : Node → Bool
has_kept_value n = is_input n && is_value_mode (mode_of (kind_of n))

abbrev pub is_range_kind : Kind → Bool
is_range_kind kinds.Range = true
is_range_kind kind = false

-- an input in the state range, whose value is sanitised again where its limits change
abbrev pub is_range : Node → Bool
is_range n = is_input n && is_range_kind (kind_of n)

-- what a text is sanitised to as the value of that input
abbrev pub sanitised_as : Node → List ℕ → List ℕ
sanitised_as n text = sanitised (kind_of n) (own_limits n) text

abbrev pub sanitised_in : Node → List ℕ
sanitised_in n = sanitised_as n n.state.value

abbrev pub with_sanitised_value : Node → Node
with_sanitised_value n =
    if has_kept_value n then record n { state = record n.state { value = sanitised_in n } } else n

-- the value of one control sanitised, where it is an input in the mode value
abbrev pub with_value : Nodes → Key → Nodes
with_value ns k = with_node ns k with_sanitised_value
