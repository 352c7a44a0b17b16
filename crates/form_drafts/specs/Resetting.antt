-- Resetting a form (HTML, "Resetting a form", and the reset algorithms of its controls).
use Rattle.std.specs.Prelude.{◌&&◌, false, List, [], map, filter, fold, codes, if◌then◌else◌}
use Rattle.form_tree.specs.declared.node.Key.{Key}
use Rattle.form_tree.specs.declared.node.Node.{Node}
use Rattle.form_tree.specs.Elements.{has_attr, is_resettable, is_select, is_textarea, passes}
use Rattle.form_tree.specs.Selects.{is_option_of}
use Rattle.form_tree.specs.Tree.{Nodes, with_node}
use Rattle.form_tree.specs.Value.{value_attr_or}
use Rattle.form_page.specs.Invalid.{is_owned_by}
use Rattle.form_page.specs.Settling.{with_radio, with_selectedness}
use Rattle.form_changes.specs.Values.{with_value}

-- an input before its group and its value are seen to
abbrev pub reset_input : Node → Node
reset_input n = record n {
  state = record n.state {
    value = value_attr_or [] n;
    dirty = false;
    by_user = false;
    typed = [];
    checked = has_attr (codes "checked") n;
    dirty_checked = false;
    files = [];
  };
}

-- a textarea's raw value is its text
abbrev pub reset_textarea : Node → Node
reset_textarea n = record n { state = record n.state { value = n.text; dirty = false; by_user = false; typed = [] } }

-- an option is selected where it has the attribute
abbrev pub reset_option : Node → Node
reset_option n =
    record n { state = record n.state { selected = has_attr (codes "selected") n; dirty_selected = false } }

abbrev pub with_options_reset : Nodes → Key → Nodes
with_options_reset ns s = map (λ n. if is_option_of ns s n.key then reset_option n else n) ns

-- one control; custom messages stay
abbrev pub with_reset : Nodes → Key → Nodes
with_reset ns k =
    if passes is_select ns k then with_selectedness (with_options_reset ns k) k
    else if passes is_textarea ns k then with_node ns k reset_textarea
    else with_value (with_radio (with_node ns k reset_input) k) k

-- the resettable elements of a form, in tree order
abbrev pub resettables : Nodes → Key → List Key
resettables ns form = map (λ n. n.key) (filter (λ n. is_resettable n && is_owned_by ns form n) ns)

abbrev pub after_reset : Nodes → Key → Nodes
after_reset ns form = fold with_reset ns (resettables ns form)
