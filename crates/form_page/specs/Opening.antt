-- The page as it opens: each element in its first state, and then the radio buttons and the selects
-- settled.
use Rattle.std.specs.Prelude.{ℕ, ◌&&◌, Bool, false, List, [], ◌∷◌, map, Option, Some, None, if◌then◌else◌}
use Rattle.std.specs.List.{list_any}
use Rattle.form_tree.specs.declared.node.Node.{Node}
use Rattle.form_tree.specs.declared.node.Raw.{Raw}
use Rattle.form_tree.specs.declared.node.State.{State}
use Rattle.form_tree.specs.RadioGroup.{is_checked, share_group}
use Rattle.form_tree.specs.Tree.{Nodes, Tree, nodes_of_raws, tree_of_raws}
use Rattle.form_judge.specs.Beginning.{first_state}
use Rattle.form_select.specs.Settled.{settled_option}
use Rattle.form_page.specs.Page.{Page, new_file}

-- ---- what each element begins with

-- the element with that state, if there is one for it
abbrev pub with_state_if : Option State → Node → Node
with_state_if None n = n
with_state_if (Some state) n = record n { state = state }

abbrev pub with_first_states : Nodes → Nodes
with_first_states ns = map (λ n. with_state_if (Some (first_state n)) n) ns

-- ---- radio buttons

abbrev pub unchecked : State → State
unchecked state = record state { checked = false }

-- An element is outdone where it is checked and a checked member of its radio button group stands
-- behind it. (The group of another element is empty.)
abbrev pub is_outdone : Nodes → Node → Nodes → Bool
is_outdone ns n behind = is_checked n && list_any (λ m. is_checked m && share_group ns n.key m.key) behind

abbrev pub unchecked_if : Bool → Node → Option State
unchecked_if outdone n = if outdone then Some (unchecked n.state) else None

-- of the page `ns`, these last elements of it with those unchecked that are outdone
abbrev pub settled_radios_of : Nodes → Nodes → Nodes
settled_radios_of ns [] = []
settled_radios_of ns (n ∷ behind) =
    with_state_if (unchecked_if (is_outdone ns n behind) n) n ∷ settled_radios_of ns behind

-- Of each radio button group the last checked member stays checked: to check one unchecks the others,
-- and the elements are opened in tree order (HTML, "Radio Button state").
abbrev pub with_settled_radios : Nodes → Nodes
with_settled_radios ns = settled_radios_of ns ns

-- ---- selects

-- the algorithm for every select
abbrev pub with_settled_selects : Nodes → Nodes
with_settled_selects ns = map (λ n. with_state_if (settled_option ns n) n) ns

-- ---- the page

-- the elements as the page opens
unfoldable pub opened_nodes : Nodes → Nodes
opened_nodes ns = with_settled_selects (with_settled_radios (with_first_states ns))

-- the tree of the raws as it opens: keys from 1 on, in their order
abbrev pub opened_tree : List Raw → Tree
opened_tree raws = record (tree_of_raws raws) { nodes = opened_nodes (nodes_of_raws raws) }

-- the page of these raws, with files of these names that are all there
abbrev pub opened : List Raw → List (List ℕ) → Page
opened raws names = record { tree = opened_tree raws; files = map new_file names }
