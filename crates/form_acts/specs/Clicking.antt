-- What a click of a button does, and implicit submission.
use Rattle.std.specs.Prelude.{ℕ, nat_le, ◌&&◌, ◌||◌, not, Bool, true, false, Option, Some, None, Result, Ok, Err, filter, find, length, if◌then◌else◌}
use Rattle.std.specs.Option.{option_map, option_map_or}
use Rattle.form_types.specs.declared.kind.Kind.{Kind}
use Rattle.form_types.specs.declared.kind.Kind.TheVariants as kinds
use Rattle.form_types.specs.declared.kind.ButtonKind.{ButtonKind}
use Rattle.form_types.specs.declared.kind.ButtonKind.TheVariants as buttons
use Rattle.form_types.specs.TypeTable as table
use Rattle.form_tree.specs.declared.node.Key.{Key}
use Rattle.form_tree.specs.declared.node.Node.{Node}
use Rattle.form_tree.specs.Disabling.{is_disabled}
use Rattle.form_tree.specs.Elements.{button_kind_of, is_button, is_input, kind_of}
use Rattle.form_tree.specs.Ownership.{owner_of}
use Rattle.form_tree.specs.Tree.{Nodes, at_key}
use Rattle.form_page.specs.Invalid.{is_owned_by}
use Rattle.form_changes.specs.declared.act.ActFault.{ActFault}
use Rattle.form_changes.specs.declared.act.ActFault.TheVariants as faults
use Rattle.form_acts.specs.declared.clicked.Clicked.{Clicked}
use Rattle.form_acts.specs.declared.clicked.Clicked.TheVariants as clicks

-- ---- buttons (HTML, "Categories": buttons and submit buttons)

-- a button element, or an input in the state of a button
abbrev pub is_any_button : Node → Bool
is_any_button n = is_button n || (is_input n && table.is_button (kind_of n))

-- a submit button
abbrev pub is_submitter : Node → Bool
is_submitter n =
    (is_input n && table.is_submit_button (kind_of n)) || (is_button n && table.is_submit_kind (button_kind_of n))

abbrev pub is_reset_kind : Kind → Bool
is_reset_kind kinds.Reset = true
is_reset_kind kind = false

abbrev pub is_reset_button_kind : ButtonKind → Bool
is_reset_button_kind buttons.Reset = true
is_reset_button_kind kind = false

-- a reset button
abbrev pub is_resetter : Node → Bool
is_resetter n = (is_input n && is_reset_kind (kind_of n)) || (is_button n && is_reset_button_kind (button_kind_of n))

abbrev pub is_image_kind : Kind → Bool
is_image_kind kinds.Image = true
is_image_kind kind = false

-- an input in the state image button
abbrev pub is_image : Node → Bool
is_image n = is_input n && is_image_kind (kind_of n)

-- ---- a click

-- what can be clicked: any button, and at a place of it an image button
abbrev pub takes_click : Option (ℕ × ℕ) → Node → Bool
takes_click None n = is_any_button n
takes_click (Some place) n = is_image n

-- the place of a click that names none
abbrev pub place_or_origin : Option (ℕ × ℕ) → ℕ × ℕ
place_or_origin None = (0, 0)
place_or_origin (Some place) = place

-- what the button does to its form (HTML, "The button element" and the input's button states,
-- activation behaviour)
abbrev pub activation : Node → Key → ℕ × ℕ → Clicked
activation n form place =
    if is_submitter n then clicks.Submit form (Some n.key) place
    else if is_resetter n then clicks.Reset form
    else clicks.Nothing

abbrev pub click_at : Nodes → Key → Option (ℕ × ℕ) → Option Node → Result Clicked ActFault
click_at ns k place None = Err faults.NoElement
click_at ns k place (Some n) =
    if not (takes_click place n) then Err faults.WrongKind
    else if is_disabled ns k then Err faults.Immutable
    else Ok (option_map_or (λ form. activation n form (place_or_origin place)) (owner_of ns k) clicks.Nothing)

-- a click, or its refusal
abbrev pub click_of : Nodes → Key → Option (ℕ × ℕ) → Result Clicked ActFault
click_of ns k place = click_at ns k place (at_key ns k)

-- ---- implicit submission (HTML, "Implicit submission")

-- an input in a state that blocks implicit submission beside another such field
abbrev pub is_blocking : Node → Bool
is_blocking n = is_input n && table.blocks (kind_of n)

-- the form's default button: its first submit button in tree order
abbrev pub default_button : Nodes → Key → Option Key
default_button ns form = option_map (λ n. n.key) (find (λ n. is_submitter n && is_owned_by ns form n) ns)

-- how many blocking fields the form owns
abbrev pub blocking_count : Nodes → Key → ℕ
blocking_count ns form = length (filter (λ n. is_blocking n && is_owned_by ns form n) ns)

-- the default button is clicked unless it is disabled; without one the form submits itself where no
-- more than one field blocks
abbrev pub implicit_by : Nodes → Key → Option Key → Clicked
implicit_by ns form (Some button) =
    if is_disabled ns button then clicks.Nothing else clicks.Submit form (Some button) (0, 0)
implicit_by ns form None =
    if nat_le (blocking_count ns form) 1 then clicks.Submit form None (0, 0) else clicks.Nothing

abbrev pub implicit_at : Nodes → Key → Option Node → Result Clicked ActFault
implicit_at ns k None = Err faults.NoElement
implicit_at ns k (Some n) =
    if not (is_blocking n) then Err faults.WrongKind
    else if is_disabled ns k then Err faults.Immutable
    else Ok (option_map_or (λ form. implicit_by ns form (default_button ns form)) (owner_of ns k) clicks.Nothing)

-- implicit submission from a field, or its refusal
abbrev pub implicit_of : Nodes → Key → Result Clicked ActFault
implicit_of ns k = implicit_at ns k (at_key ns k)
