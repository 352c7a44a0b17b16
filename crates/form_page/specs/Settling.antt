-- What follows a change of checkedness or selectedness: of the radio buttons of one group, and of
-- the options of one select.
use Rattle.std.specs.Prelude.{◌==◌, ◌&&◌, not, Bool, true, false, List, map, filter, find, fold, reverse, Option, Some, None, if◌then◌else◌}
use Rattle.std.specs.Option.{option_map_or}
use Rattle.form_tree.specs.declared.node.Key.{Key}
use Rattle.form_tree.specs.declared.node.Node.{Node}
use Rattle.form_tree.specs.Elements.{is_input, passes, same_owner}
use Rattle.form_tree.specs.Ownership.{owner_of}
use Rattle.form_tree.specs.RadioGroup.{is_checked, share_group}
use Rattle.form_tree.specs.Selects.{display_size, is_disabled_option, is_multiple, is_option_of, is_selected, options, share_select}
use Rattle.form_tree.specs.Tree.{Nodes, is_key, with_node}

-- all elements of a set of keys changed, but that of one key
abbrev pub changed_but : (Node → Node) → (Key → Bool) → Key → Nodes → Nodes
changed_but change group k ns = map (λ n. if group n.key && not (is_key k n) then change n else n) ns

-- ---- radio buttons (HTML, "Radio Button state")

abbrev pub off : Node → Node
off n = record n { state = record n.state { checked = false } }

-- a radio button that is checked unchecks all others of its group
abbrev pub with_radio : Nodes → Key → Nodes
with_radio ns k = if passes is_checked ns k then changed_but off (share_group ns k) k ns else ns

-- the same for each of a list of keys in order, each on the page so far
abbrev pub with_radios : Nodes → List Key → Nodes
with_radios ns ks = fold with_radio ns ks

-- the inputs whose form owner differs between two pages, in the order of the second
abbrev pub moved_inputs : Nodes → Nodes → List Key
moved_inputs before after =
    map (λ n. n.key)
    (filter (λ n. is_input n && not (same_owner (owner_of before n.key) (owner_of after n.key))) after)

-- ---- options (HTML, "The select element")

abbrev pub not_selected : Node → Node
not_selected n = record n { state = record n.state { selected = false } }

abbrev pub now_selected : Node → Node
now_selected n = record n { state = record n.state { selected = true } }

-- an option that was selected unselects the others of its select, where that is not `multiple`
abbrev pub with_selection : Nodes → Key → Nodes
with_selection ns k = changed_but not_selected (share_select ns k) k ns

-- the last selected option of a select, and the first that is not disabled
abbrev pub last_selected : Nodes → Key → Option Node
last_selected ns s = find is_selected (reverse (options ns s))

abbrev pub first_enabled : Nodes → Key → Option Node
first_enabled ns s = find (λ n. not (is_disabled_option ns n)) (options ns s)

-- where options are selected, the last of them stays; where none is and the display size is 1, the
-- first that is not disabled becomes selected
abbrev pub with_last : Nodes → Key → Option Node → Nodes
with_last ns s (Some last) = changed_but not_selected (is_option_of ns s) last.key ns
with_last ns s None =
    if display_size ns s == 1
    then option_map_or (λ first. with_node ns first.key now_selected) (first_enabled ns s) ns
    else ns

-- the selectedness setting algorithm for one select
abbrev pub with_selectedness : Nodes → Key → Nodes
with_selectedness ns s = if is_multiple ns s then ns else with_last ns s (last_selected ns s)
