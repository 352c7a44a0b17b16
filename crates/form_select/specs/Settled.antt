-- All selects of a page after the selectedness setting algorithm.
use Rattle.std.specs.Prelude.{Bool, Option, None, if◌then◌else◌}
use Rattle.std.specs.List.{slice_get}
use Rattle.std.specs.Option.{option_map}
use Rattle.form_tree.specs.declared.node.Key.{Key}
use Rattle.form_tree.specs.declared.node.Node.{Node}
use Rattle.form_tree.specs.declared.node.State.{State}
use Rattle.form_tree.specs.Elements.{is_among, is_select}
use Rattle.form_tree.specs.Selects.{is_multiple, is_selected, select_of, settled}
use Rattle.form_tree.specs.Tree.{Nodes}

abbrev pub with_selectedness_of : Bool → State → State
with_selectedness_of selected state = record state { selected = selected }

-- Whether an option of that select is selected after the selectedness setting algorithm, which does
-- nothing where the select is `multiple` (HTML, "The select element").
abbrev pub stays_selected : Nodes → Node → Key → Bool
stays_selected ns n s = if is_multiple ns s then is_selected n else is_among (settled ns s) n.key

-- the state of an option of a select after the algorithm; none for any other element
abbrev pub settled_option : Nodes → Node → Option State
settled_option ns n = option_map (λ s. with_selectedness_of (stays_selected ns n s) n.state) (select_of ns n.key)

-- of a select the first option that stays selected
abbrev pub chosen_at : Nodes → Node → Option Key
chosen_at ns n = if is_select n then slice_get (settled ns n.key) 0 else None
