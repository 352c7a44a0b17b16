-- The states of an input's type attribute, one row a state (HTML, "The input element", the table
-- of its type keywords and states and the table of what applies to each state).
use Rattle.std.specs.Prelude.{ℕ, ℤ, pos, Bool, true, false, List, [], ◌∷◌, Option, Some, None, codes, find, unwrap_or, if◌then◌else◌}
use Rattle.std.specs.List.{list_any}
use Rattle.std.specs.Str.{str_eq_ignore_ascii_case}
use denote.Enum.Bare.{sameb}
use Rattle.form_types.specs.contracts.kind.Kind.{the_type as Kinds}
use Rattle.form_types.specs.contracts.kind.Attr.{the_type as Attrs}
use Rattle.form_types.specs.contracts.kind.ButtonKind.{the_type as ButtonKinds}
use Rattle.form_types.specs.declared.kind.Kind.{Kind}
use Rattle.form_types.specs.declared.kind.Kind.TheVariants as kinds
use Rattle.form_types.specs.declared.kind.Mode.{Mode}
use Rattle.form_types.specs.declared.kind.Mode.TheVariants as modes
use Rattle.form_types.specs.declared.kind.Attr.{Attr}
use Rattle.form_types.specs.declared.kind.Attr.TheVariants as attrs
use Rattle.form_types.specs.declared.kind.ButtonKind.{ButtonKind}
use Rattle.form_types.specs.declared.kind.ButtonKind.TheVariants as buttons

-- a state: its keyword, what its value is, the attributes that apply, its step scale factor and
-- its default step where it has numbers, and whether it blocks implicit submission
pub record TypeRow : Type 0 where
  pub kind : Kind
  pub keyword : List ℕ
  pub mode : Mode
  pub attributes : List Attr
  pub scale : Option ℤ
  pub default_step : Option ℤ
  pub blocks : Bool

abbrev pub row : Kind → List ℕ → Mode → List Attr → Option ℤ → Option ℤ → Bool → TypeRow
row kind keyword mode attributes scale default_step blocks = record {
  kind = kind;
  keyword = keyword;
  mode = mode;
  attributes = attributes;
  scale = scale;
  default_step = default_step;
  blocks = blocks;
}

abbrev pub text_attributes : List Attr
text_attributes = attrs.Required ∷ attrs.Readonly ∷ attrs.Minlength ∷ attrs.Maxlength ∷ attrs.Pattern ∷ []

abbrev pub range_attributes : List Attr
range_attributes = attrs.Min ∷ attrs.Max ∷ attrs.Step ∷ []

abbrev pub number_attributes : List Attr
number_attributes = attrs.Required ∷ attrs.Readonly ∷ range_attributes

abbrev pub is_listed : Attr → List Attr → Bool
is_listed attr listed = list_any (λ a. sameb Attrs a attr) listed

-- the table
abbrev pub type_table : List TypeRow
type_table =
    row kinds.Hidden (codes "hidden") modes.Default [] None None false
    ∷ row kinds.Text (codes "text") modes.Value text_attributes None None true
    ∷ row kinds.Search (codes "search") modes.Value text_attributes None None true
    ∷ row kinds.Tel (codes "tel") modes.Value text_attributes None None true
    ∷ row kinds.Url (codes "url") modes.Value text_attributes None None true
    ∷ row kinds.Password (codes "password") modes.Value text_attributes None None true
    ∷ row kinds.Date (codes "date") modes.Value number_attributes (Some (pos 86_400_000)) (Some (pos 1)) true
    ∷ row kinds.Month (codes "month") modes.Value number_attributes (Some (pos 1)) (Some (pos 1)) true
    ∷ row kinds.Week (codes "week") modes.Value number_attributes (Some (pos 604_800_000)) (Some (pos 1)) true
    ∷ row kinds.Time (codes "time") modes.Value number_attributes (Some (pos 1_000)) (Some (pos 60)) true
    ∷ row kinds.Local (codes "datetime-local") modes.Value number_attributes (Some (pos 1_000)) (Some (pos 60)) true
    ∷ row kinds.Number (codes "number") modes.Value number_attributes (Some (pos 1)) (Some (pos 1)) true
    ∷ row kinds.Range (codes "range") modes.Value range_attributes (Some (pos 1)) (Some (pos 1)) false
    ∷ row kinds.Color (codes "color") modes.Value [] None None false
    ∷ row kinds.Checkbox (codes "checkbox") modes.DefaultOn (attrs.Required ∷ []) None None false
    ∷ row kinds.Radio (codes "radio") modes.DefaultOn (attrs.Required ∷ []) None None false
    ∷ row kinds.File (codes "file") modes.Filename (attrs.Required ∷ attrs.Multiple ∷ []) None None false
    ∷ row kinds.Submit (codes "submit") modes.Default [] None None false
    ∷ row kinds.Image (codes "image") modes.Default [] None None false
    ∷ row kinds.Reset (codes "reset") modes.Default [] None None false
    ∷ row kinds.Button (codes "button") modes.Default [] None None false
    ∷ []

-- the row of the state Text, which also stands where nothing is found
abbrev pub text_row : TypeRow
text_row = row kinds.Text (codes "text") modes.Value text_attributes None None true

-- the row of a state
unfoldable pub row_of : Kind → TypeRow
row_of kind = unwrap_or (find (λ r. sameb Kinds r.kind kind) type_table) text_row

abbrev pub keyword_of : Kind → List ℕ
keyword_of kind = (row_of kind).keyword

abbrev pub mode_of : Kind → Mode
mode_of kind = (row_of kind).mode

abbrev pub scale_of : Kind → Option ℤ
scale_of kind = (row_of kind).scale

abbrev pub default_step_of : Kind → Option ℤ
default_step_of kind = (row_of kind).default_step

abbrev pub blocks : Kind → Bool
blocks kind = (row_of kind).blocks

-- whether the attribute applies to the state
abbrev pub applies_to : Kind → Attr → Bool
applies_to kind attr = is_listed attr (row_of kind).attributes

-- the state is one of these
abbrev pub is_one_of : Kind → List Kind → Bool
is_one_of kind listed = list_any (λ k. sameb Kinds k kind) listed

-- an input in that state is a submit button (HTML, "Categories")
abbrev pub is_submit_button : Kind → Bool
is_submit_button kind = is_one_of kind (kinds.Submit ∷ kinds.Image ∷ [])

-- an input in that state is a button (HTML, "Categories")
abbrev pub is_button : Kind → Bool
is_button kind = is_one_of kind (kinds.Submit ∷ kinds.Image ∷ kinds.Reset ∷ kinds.Button ∷ [])

-- the state has a periodic domain, so that its range may be reversed (HTML, "The min and max
-- attributes")
abbrev pub has_periodic_domain : Kind → Bool
has_periodic_domain kind = is_one_of kind (kinds.Time ∷ [])

-- a button element of that kind is a submit button; each button element is a button
abbrev pub is_submit_kind : ButtonKind → Bool
is_submit_kind kind = sameb ButtonKinds buttons.Submit kind

-- the state that a keyword names among these rows, ASCII case-insensitively, or else Text
unfoldable pub kind_in : List ℕ → List TypeRow → Kind
kind_in keyword rows = (unwrap_or (find (λ r. str_eq_ignore_ascii_case keyword r.keyword) rows) text_row).kind

-- the state that a type attribute names: Text where it is missing or unknown
abbrev pub kind_named : Option (List ℕ) → Kind
kind_named None = kinds.Text
kind_named (Some keyword) = kind_in keyword type_table

-- whether the type attribute names the email state
abbrev pub names_email : Option (List ℕ) → Bool
names_email None = false
names_email (Some keyword) = str_eq_ignore_ascii_case keyword (codes "email")

-- the kind of a button element: submit where its type is missing or unknown
abbrev pub button_kind_named : Option (List ℕ) → ButtonKind
button_kind_named None = buttons.Submit
button_kind_named (Some keyword) =
    if str_eq_ignore_ascii_case keyword (codes "reset") then buttons.Reset
    else if str_eq_ignore_ascii_case keyword (codes "button") then buttons.Button
    else buttons.Submit
