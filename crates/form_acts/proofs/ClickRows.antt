-- Clicks, implicit submissions and refusals worked by hand, by computing the definitions.
use Rattle.std.proofs.Common.{◌≡◌, ℕ, true, false, List, [], ◌∷◌, Some, None, codes, refl}
use Rattle.std.specs.Prelude.{Ok, Err}
use Rattle.form_types.specs.TypeTable.{kind_in, row_of}
use Rattle.form_tree.specs.declared.node.Tag.TheVariants as tags
use Rattle.form_tree.specs.Tree.{Nodes}
use Rattle.form_page.specs.Page.{Page, new_file}
use Rattle.form_changes.specs.declared.act.Act.TheVariants as acts
use Rattle.form_changes.specs.declared.act.ActFault.TheVariants as faults
use Rattle.form_acts.specs.declared.clicked.Clicked.TheVariants as clicks
use Rattle.form_acts.specs.Clicking.{click_of, implicit_of}
use Rattle.form_acts.specs.Refusals.{refusal_of}
use Rattle.form_acts.proofs.Rows.{element, key}

abbrev typed : List ℕ → List (List ℕ × List ℕ)
typed type = (codes "type", type) ∷ []

abbrev disabled : List (List ℕ × List ℕ) → List (List ℕ × List ℕ)
disabled attrs = (codes "disabled", []) ∷ attrs

-- ---- clicks

buttons : Nodes
buttons =
    element 1 None tags.Form [] false false
    ∷ element 2 (Some 1) tags.Input (typed (codes "submit")) false false
    ∷ element 3 (Some 1) tags.Button (typed (codes "reset")) false false
    ∷ element 4 (Some 1) tags.Input (typed (codes "image")) false false
    ∷ element 5 (Some 1) tags.Button (typed (codes "button")) false false
    ∷ element 6 (Some 1) tags.Button (disabled []) false false
    ∷ element 7 None tags.Button [] false false
    ∷ element 8 (Some 1) tags.Input [] false false
    ∷ []

submits : click_of buttons (key 2) None ≡ Ok (clicks.Submit (key 1) (Some (key 2)) (0, 0))
unfolding buttons kind_in
submits = refl

resets : click_of buttons (key 3) None ≡ Ok (clicks.Reset (key 1))
unfolding buttons kind_in
resets = refl

-- at a place
at_place : click_of buttons (key 4) (Some (3, 4)) ≡ Ok (clicks.Submit (key 1) (Some (key 4)) (3, 4))
unfolding buttons kind_in
at_place = refl

-- only an image button takes a place
no_image : click_of buttons (key 2) (Some (3, 4)) ≡ Err faults.WrongKind
unfolding buttons kind_in
no_image = refl

does_nothing : click_of buttons (key 5) None ≡ Ok clicks.Nothing
unfolding buttons kind_in
does_nothing = refl

is_disabled : click_of buttons (key 6) None ≡ Err faults.Immutable
unfolding buttons kind_in
is_disabled = refl

-- without a form
alone : click_of buttons (key 7) None ≡ Ok clicks.Nothing
unfolding buttons kind_in
alone = refl

no_button : click_of buttons (key 8) None ≡ Err faults.WrongKind
unfolding buttons kind_in
no_button = refl

no_element : click_of buttons (key 9) None ≡ Err faults.NoElement
unfolding buttons kind_in
no_element = refl

-- ---- implicit submission

-- the first submit button in tree order is the default one
by_button : implicit_of buttons (key 8) ≡ Ok (clicks.Submit (key 1) (Some (key 2)) (0, 0))
unfolding buttons kind_in row_of
by_button = refl

-- a disabled default button does nothing, also where another one stands behind it
behind_disabled : Nodes
behind_disabled =
    element 1 None tags.Form [] false false
    ∷ element 2 (Some 1) tags.Input [] false false
    ∷ element 3 (Some 1) tags.Button (disabled []) false false
    ∷ element 4 (Some 1) tags.Button [] false false
    ∷ []

stopped : implicit_of behind_disabled (key 2) ≡ Ok clicks.Nothing
unfolding behind_disabled kind_in row_of
stopped = refl

-- without a submit button the form submits itself
one_field : Nodes
one_field =
    element 1 None tags.Form [] false false
    ∷ element 2 (Some 1) tags.Input [] false false
    ∷ element 3 (Some 1) tags.Input (typed (codes "checkbox")) false false
    ∷ element 4 None tags.Button [] false false
    ∷ []

itself : implicit_of one_field (key 2) ≡ Ok (clicks.Submit (key 1) None (0, 0))
unfolding one_field kind_in row_of
itself = refl

-- a checkbox takes no enter key
no_field : implicit_of one_field (key 3) ≡ Err faults.WrongKind
unfolding one_field kind_in row_of
no_field = refl

-- but not where two fields block
two_fields : Nodes
two_fields =
    element 1 None tags.Form [] false false
    ∷ element 2 (Some 1) tags.Input [] false false
    ∷ element 3 (Some 1) tags.Input (typed (codes "date")) false false
    ∷ []

blocked : implicit_of two_fields (key 2) ≡ Ok clicks.Nothing
unfolding two_fields kind_in row_of
blocked = refl

-- ---- refusals

abbrev page_of : Nodes → Page
page_of ns = record { tree = record { nodes = ns; used = 9 }; files = new_file (codes "f") ∷ [] }

-- a disabled control refuses its user, and not the script
user_refused : refusal_of (page_of (element 1 None tags.Input (disabled []) false false ∷ [])) (acts.User (key 1) []) ≡ Some faults.Immutable
unfolding kind_in row_of
user_refused = refl

script_taken : refusal_of (page_of (element 1 None tags.Input (disabled []) false false ∷ [])) (acts.Set (key 1) []) ≡ None
unfolding kind_in row_of
script_taken = refl

email_refused : refusal_of (page_of (element 1 None tags.Input [] false false ∷ [])) (acts.Attr (key 1) (codes "type") (Some (codes "EMAIL"))) ≡ Some faults.Email
unfolding kind_in row_of
email_refused = refl

-- a radio button is not unchecked by its user
no_uncheck : refusal_of (page_of (element 1 None tags.Input (typed (codes "radio")) true false ∷ [])) (acts.Check (key 1) false) ≡ Some faults.WrongKind
unfolding kind_in row_of
no_uncheck = refl

-- no file of that number, and too many without `multiple`
no_file : refusal_of (page_of (element 1 None tags.Input (typed (codes "file")) false false ∷ [])) (acts.Choose (key 1) (1 ∷ 2 ∷ [])) ≡ Some faults.NoFile
unfolding kind_in row_of
no_file = refl

too_many : refusal_of (page_of (element 1 None tags.Input (typed (codes "file")) false false ∷ [])) (acts.Choose (key 1) (1 ∷ 1 ∷ [])) ≡ Some faults.Limit
unfolding kind_in row_of
too_many = refl

-- an option without a select
no_select : refusal_of (page_of (element 1 None tags.Choice [] false false ∷ [])) (acts.Pick (key 1)) ≡ Some faults.WrongKind
unfolding kind_in row_of
no_select = refl
