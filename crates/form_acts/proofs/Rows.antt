-- Pages worked by hand, by computing the definitions.
use Rattle.std.proofs.Common.{◌≡◌, ℕ, Bool, true, false, List, [], ◌∷◌, map, Option, Some, None, codes, refl}
use Rattle.std.specs.Option.{option_map}
use Rattle.form_types.specs.TypeTable.{kind_in, row_of}
use Rattle.form_tree.specs.declared.node.Key.{Key}
use Rattle.form_tree.specs.declared.node.Node.{Node}
use Rattle.form_tree.specs.declared.node.Tag.{Tag}
use Rattle.form_tree.specs.declared.node.Tag.TheVariants as tags
use Rattle.form_tree.specs.Attributes.{set_attr}
use Rattle.form_tree.specs.Tree.{Nodes, empty_state, with_node}
use Rattle.form_page.specs.Settling.{moved_inputs}
use Rattle.form_acts.specs.Acts.{after_attr, after_check, after_pick, after_set_selected}
use Rattle.form_drafts.specs.Resetting.{after_reset}

abbrev pub key : ℕ → Key
key n = record { 0 = n }

abbrev pub element : ℕ → Option ℕ → Tag → List (List ℕ × List ℕ) → Bool → Bool → Node
element k parent tag attrs checked selected = record {
  key = key k;
  parent = option_map key parent;
  tag = tag;
  attrs = attrs;
  text = [];
  state = record empty_state { checked = checked; selected = selected };
}

abbrev radio : List (List ℕ × List ℕ) → List (List ℕ × List ℕ)
radio attrs = (codes "type", codes "radio") ∷ (codes "name", codes "g") ∷ attrs

abbrev checks : Nodes → List Bool
checks t = map (λ n. n.state.checked) t

abbrev selections : Nodes → List Bool
selections t = map (λ n. n.state.selected) t

-- An id change joins two groups; the moved one stays.
two_forms : Nodes
two_forms =
    element 1 None tags.Form ((codes "id", codes "a") ∷ []) false false
    ∷ element 2 (Some 1) tags.Input (radio []) true false
    ∷ element 3 None tags.Form ((codes "id", codes "b") ∷ []) false false
    ∷ element 4 None tags.Input (radio ((codes "form", codes "c") ∷ [])) true false
    ∷ []

joined : checks (after_attr two_forms (key 1) (codes "id") (Some (codes "c"))) ≡ false ∷ false ∷ false ∷ true ∷ []
unfolding two_forms kind_in
joined = refl

-- One id change moves three inputs: one leaves its form, and of the two that join it the first in
-- tree order is taken first, so nothing is unchecked.
outside : Nodes
outside =
    element 1 None tags.Form ((codes "id", codes "a") ∷ []) false false
    ∷ element 2 None tags.Input (radio ((codes "form", codes "a") ∷ [])) true false
    ∷ element 3 None tags.Input (radio ((codes "form", codes "b") ∷ [])) true false
    ∷ element 4 None tags.Input (radio ((codes "form", codes "b") ∷ [])) false false
    ∷ []

moved : moved_inputs outside (with_node outside (key 1) (set_attr (codes "id") (Some (codes "b")))) ≡ key 2 ∷ key 3 ∷ key 4 ∷ []
unfolding outside kind_in
moved = refl

apart : checks (after_attr outside (key 1) (codes "id") (Some (codes "b"))) ≡ false ∷ true ∷ true ∷ false ∷ []
unfolding outside kind_in
apart = refl

-- A name change takes the checked radio button into its new group, whose other member is unchecked.
named : checks (after_attr two_forms (key 4) (codes "form") (Some (codes "a"))) ≡ false ∷ false ∷ false ∷ true ∷ []
unfolding two_forms kind_in
named = refl

-- A checked checkbox that becomes a radio button unchecks its group.
boxes : Nodes
boxes =
    element 1 None tags.Input (radio []) true false
    ∷ element 2 None tags.Input ((codes "type", codes "checkbox") ∷ (codes "name", codes "g") ∷ []) true false
    ∷ []

retyped : checks (after_attr boxes (key 2) (codes "type") (Some (codes "RADIO"))) ≡ false ∷ true ∷ []
unfolding boxes kind_in row_of
retyped = refl

-- To set the checkedness of a checkbox unchecks nothing.
box_checked : checks (after_check boxes (key 2) true) ≡ true ∷ true ∷ []
unfolding boxes kind_in row_of
box_checked = refl

-- a select of three options
three : Nodes
three =
    element 1 None tags.Select [] false false
    ∷ element 2 (Some 1) tags.Choice ((codes "disabled", []) ∷ []) false false
    ∷ element 3 (Some 1) tags.Optgroup [] false false
    ∷ element 4 (Some 3) tags.Choice [] false true
    ∷ element 5 (Some 3) tags.Choice [] false false
    ∷ []

picked : selections (after_pick three (key 5)) ≡ false ∷ false ∷ false ∷ false ∷ true ∷ []
unfolding three
picked = refl

set : selections (after_set_selected three (key 5) true) ≡ false ∷ false ∷ false ∷ false ∷ true ∷ []
unfolding three
set = refl

-- where none is left the first that is not disabled becomes selected
left : selections (after_set_selected three (key 4) false) ≡ false ∷ false ∷ false ∷ true ∷ false ∷ []
unfolding three
left = refl

-- `selected` added to an option that is not dirty selects it, and the other is left
added : selections (after_attr three (key 5) (codes "selected") (Some [])) ≡ false ∷ false ∷ false ∷ false ∷ true ∷ []
unfolding three
added = refl

-- a reset selects those with the attribute: none, so the first that is not disabled
cleared : selections (after_reset (element 9 None tags.Form [] false false ∷ []) (key 9)) ≡ false ∷ []
cleared = refl
