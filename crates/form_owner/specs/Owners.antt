-- What is kept of the elements of a page, and what an attribute change moves.
use Rattle.std.specs.Prelude.{ℕ, ◌++◌, not, Bool, false, List, [], ◌∷◌, map, filter, find, Option, if◌then◌else◌}
use Rattle.std.specs.Option.{option_and_then, option_map_or}
use Rattle.form_tree.specs.declared.node.Key.{Key}
use Rattle.form_tree.specs.declared.node.Node.{Node}
use Rattle.form_tree.specs.Attributes.{with_attr}
use Rattle.form_tree.specs.Disabling.{disabling_count, is_disabled}
use Rattle.form_tree.specs.Elements.{same_key, same_owner}
use Rattle.form_tree.specs.Ownership.{id_of, nearest_form, owner_of}
use Rattle.form_tree.specs.Tree.{Nodes}
use Rattle.form_owner.specs.declared.answer.Answer.{Answer}
use Rattle.form_owner.specs.declared.moves.Move.{Move}

-- what is kept of an element
abbrev pub answer_for : Nodes → Node → Answer
answer_for ns n = record {
  key = n.key;
  id = id_of n;
  ancestor_form = nearest_form ns n.key;
  owner = owner_of ns n.key;
  disabling = disabling_count ns n.key;
  disabled = is_disabled ns n.key;
}

-- the owners of a page: what is kept of each element, in tree order
abbrev pub owners_of : Nodes → List Answer
owners_of ns = map (answer_for ns) ns

-- what is kept of a key
abbrev pub answer_of : List Answer → Key → Option Answer
answer_of answers k = find (λ answer. same_key k answer.key) answers

abbrev pub kept_owner : List Answer → Key → Option Key
kept_owner answers k = option_and_then (λ answer. answer.owner) (answer_of answers k)

abbrev pub is_kept_disabled : List Answer → Key → Bool
is_kept_disabled answers k = option_map_or (λ answer. answer.disabled) (answer_of answers k) false

-- ---- what moves

-- the element's owner differs between the two pages
abbrev pub is_moved : Nodes → Nodes → Node → Bool
is_moved before after n = not (same_owner (owner_of before n.key) (owner_of after n.key))

abbrev pub move_of : Nodes → Nodes → Node → Move
move_of before after n = record { key = n.key; was = owner_of before n.key; becomes = owner_of after n.key }

-- the elements whose owner differs, in tree order; only listed elements have owners
abbrev pub moves_between : Nodes → Nodes → List Move
moves_between before after = map (move_of before after) (filter (is_moved before after) before)

-- what an attribute set or taken away moves
abbrev pub moves_of : Nodes → Key → List ℕ → Option (List ℕ) → List Move
moves_of ns k name value = moves_between ns (with_attr ns k name value)

-- ---- the same over the answers that are kept

-- the move of an element from one owner to the other, where they differ
abbrev pub changed_owner : Answer → Answer → List Move
changed_owner was becomes =
    if same_owner was.owner becomes.owner then []
    else (let moved : Move = record { key = was.key; was = was.owner; becomes = becomes.owner } in moved ∷ [])

-- the moves from the owners of one list to those of the other, place by place
abbrev pub changed_owners : List Answer → List Answer → List Move
changed_owners [] after = []
changed_owners (was ∷ before) [] = []
changed_owners (was ∷ before) (becomes ∷ after) = changed_owner was becomes ++ changed_owners before after
