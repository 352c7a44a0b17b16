-- States put into a list of elements, place by place.
use Rattle.std.specs.Prelude.{ℕ, zero, suc, ◌&&◌, not, Bool, List, [], ◌∷◌, ◌++◌, Option, if◌then◌else◌}
use Rattle.std.specs.List.{list_any}
use Rattle.form_tree.specs.declared.node.Key.{Key}
use Rattle.form_tree.specs.declared.node.Node.{Node}
use Rattle.form_tree.specs.declared.node.State.{State}
use Rattle.form_tree.specs.RadioGroup.{is_checked, share_group}
use Rattle.form_tree.specs.Tree.{Nodes}
use Rattle.form_page.specs.Opening.{is_outdone, unchecked_if, with_state_if}

-- the elements with these states, where there is one for the place
abbrev pub with_states : Nodes → List (Option State) → Nodes
with_states [] states = []
with_states (n ∷ ns) [] = n ∷ ns
with_states (n ∷ ns) (state ∷ states) = with_state_if state n ∷ with_states ns states

-- which of the last elements of the page `ns` are outdone
abbrev pub outdone_of : Nodes → Nodes → List Bool
outdone_of ns [] = []
outdone_of ns (n ∷ behind) = is_outdone ns n behind ∷ outdone_of ns behind

-- the states that these marks make of the elements
abbrev pub unchecked_by : Nodes → List Bool → List (Option State)
unchecked_by [] marks = []
unchecked_by (n ∷ ns) [] = []
unchecked_by (n ∷ ns) (mark ∷ marks) = unchecked_if mark n ∷ unchecked_by ns marks

-- the elements with that state at a place, where there is one for it
abbrev pub with_state_at : Nodes → ℕ → Option State → Nodes
with_state_at [] place state = []
with_state_at (n ∷ ns) zero state = with_state_if state n ∷ ns
with_state_at (n ∷ ns) (suc place) state = n ∷ with_state_at ns place state

-- the element is checked, and one of these keys is that of a member of its group
abbrev pub is_outdone_by : Nodes → Node → List Key → Bool
is_outdone_by ns n lasts = is_checked n && list_any (share_group ns n.key) lasts

-- the element is the last checked member of its group
abbrev pub is_last_by : Nodes → Node → List Key → Bool
is_last_by ns n lasts = is_checked n && not (is_outdone_by ns n lasts)

abbrev pub with_last_if : Bool → Key → List Key → List Key
with_last_if last k lasts = if last then lasts ++ k ∷ [] else lasts
