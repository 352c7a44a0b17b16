-- How near acts come, worked by hand, by computing the definitions.
use Rattle.std.proofs.Common.{◌≡◌, ℕ, true, false, List, [], ◌∷◌, Some, None, codes, refl}
use Rattle.form_types.specs.TypeTable.{kind_in, row_of}
use Rattle.form_tree.specs.declared.node.Tag.TheVariants as tags
use Rattle.form_tree.specs.Tree.{Nodes}
use Rattle.form_page.specs.Page.{Page}
use Rattle.form_changes.specs.declared.act.Act.TheVariants as acts
use Rattle.form_acts.specs.Nearness.{nearness}
use Rattle.form_acts.proofs.Rows.{element, key}

abbrev page_of : Nodes → Page
page_of ns = record { tree = record { nodes = ns; used = 9 }; files = [] }

abbrev radio : List (List ℕ × List ℕ) → List (List ℕ × List ℕ)
radio attrs = (codes "type", codes "radio") ∷ (codes "name", codes "g") ∷ attrs

-- ---- a control alone

one_field : Nodes
one_field =
    element 1 None tags.Form [] false false
    ∷ element 2 (Some 1) tags.Input ((codes "required", []) ∷ []) false false
    ∷ []

messaged : nearness (page_of one_field) (acts.Custom (key 2) (codes "x")) ≡ 2
unfolding one_field kind_in row_of
messaged = refl

-- an act that changes nothing names its element
unchanged : nearness (page_of one_field) (acts.Custom (key 2) []) ≡ 1
unfolding one_field kind_in row_of
unchanged = refl

-- a refused one nothing
refused : nearness (page_of one_field) (acts.Custom (key 1) (codes "x")) ≡ 0
unfolding one_field kind_in row_of
refused = refl

-- a reset each control that it resets, and none of them differs
reset : nearness (page_of one_field) (acts.Reset (key 1)) ≡ 1
unfolding one_field kind_in row_of
reset = refl

-- ---- radio buttons

required_group : Nodes
required_group =
    element 1 None tags.Form [] false false
    ∷ element 2 (Some 1) tags.Input (radio []) false false
    ∷ element 3 (Some 1) tags.Input (radio ((codes "required", []) ∷ [])) false false
    ∷ []

-- the one that is checked differs, and touches its whole group
checked : nearness (page_of required_group) (acts.Check (key 2) true) ≡ 3
unfolding required_group kind_in row_of
checked = refl

two_forms : Nodes
two_forms =
    element 1 None tags.Form ((codes "id", codes "a") ∷ []) false false
    ∷ element 2 (Some 1) tags.Input (radio []) true false
    ∷ element 3 None tags.Form ((codes "id", codes "b") ∷ []) false false
    ∷ element 4 None tags.Input (radio ((codes "form", codes "c") ∷ [])) true false
    ∷ []

-- one comes to another owner, and the other is unchecked
joined : nearness (page_of two_forms) (acts.Attr (key 1) (codes "id") (Some (codes "c"))) ≡ 3
unfolding two_forms kind_in row_of
joined = refl

-- ---- selects and fieldsets

one_select : Nodes
one_select =
    element 1 None tags.Select [] false false
    ∷ element 2 (Some 1) tags.Choice [] false true
    ∷ element 3 (Some 1) tags.Choice [] false false
    ∷ []

picked : nearness (page_of one_select) (acts.Pick (key 3)) ≡ 2
unfolding one_select kind_in row_of
picked = refl

one_fieldset : Nodes
one_fieldset =
    element 1 None tags.Fieldset [] false false
    ∷ element 2 (Some 1) tags.Input [] false false
    ∷ element 3 (Some 1) tags.Button [] false false
    ∷ element 4 None tags.Input [] false false
    ∷ []

-- its two controls, and itself by name
disabled : nearness (page_of one_fieldset) (acts.Attr (key 1) (codes "disabled") (Some [])) ≡ 3
unfolding one_fieldset kind_in row_of
disabled = refl
