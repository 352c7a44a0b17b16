-- What is refused and why: the first of these causes that holds.
use Rattle.std.specs.Prelude.{◌≡◌, ◌⊎◌, ℕ, nat_lt, ◌&&◌, ◌||◌, not, Bool, true, false, List, length, Option, Some, None, codes, is_some, if◌then◌else◌}
use Rattle.std.specs.List.{list_any}
use Rattle.std.specs.Option.{option_map_or}
use Rattle.std.specs.Str.{bytes_eq}
use Rattle.form_types.specs.declared.kind.Kind.{Kind}
use Rattle.form_types.specs.declared.kind.Kind.TheVariants as kinds
use Rattle.form_types.specs.TypeTable.{names_email}
use Rattle.form_tree.specs.declared.node.Key.{Key}
use Rattle.form_tree.specs.declared.node.Node.{Node}
use Rattle.form_tree.specs.Disabling.{is_disabled, is_mutable}
use Rattle.form_tree.specs.Elements.{has_attr, is_empty_text, is_form, is_input, is_option, is_submittable, is_textarea, kind_of}
use Rattle.form_tree.specs.RadioGroup.{is_radio}
use Rattle.form_tree.specs.Selects.{is_disabled_option, select_of}
use Rattle.form_tree.specs.Tree.{Nodes, at_key}
use Rattle.form_page.specs.declared.file.File.{File}
use Rattle.form_page.specs.Page.{Page, name_of_file}
use Rattle.form_changes.specs.declared.act.Act.{Act}
use Rattle.form_changes.specs.declared.act.Act.TheVariants as acts
use Rattle.form_changes.specs.declared.act.ActFault.{ActFault}
use Rattle.form_changes.specs.declared.act.ActFault.TheVariants as faults
use Rattle.form_changes.specs.declared.TheConstants.{MOST_ATTRIBUTES}
use Rattle.form_changes.specs.Changing.{changed_attr, given, is_file_kind, role_of}
use Rattle.form_changes.specs.Values.{has_kept_value}

-- ---- what an element is

-- an input in the state file
abbrev pub is_file : Node → Bool
is_file n = is_input n && is_file_kind (kind_of n)

abbrev pub is_checkbox_kind : Kind → Bool
is_checkbox_kind kinds.Checkbox = true
is_checkbox_kind kind = false

-- an input in the state checkbox
abbrev pub is_checkbox : Node → Bool
is_checkbox n = is_input n && is_checkbox_kind (kind_of n)

-- the file of that number is there
abbrev pub is_file_there : List File → ℕ → Bool
is_file_there files number = is_some (name_of_file files number)

-- ---- the causes

-- the element that the act is made to; a withdrawn file has none
abbrev pub key_of : Act → Option Key
key_of (acts.User k text) = Some k
key_of (acts.Set k text) = Some k
key_of (acts.Attr k name value) = Some k
key_of (acts.Text k text) = Some k
key_of (acts.Check k on) = Some k
key_of (acts.SetChecked k on) = Some k
key_of (acts.Pick k) = Some k
key_of (acts.SetSelected k on) = Some k
key_of (acts.Custom k text) = Some k
key_of (acts.Choose k files) = Some k
key_of (acts.Withdraw file) = None
key_of (acts.Reset k) = Some k

-- the act can be made to such an element at all
abbrev pub is_of_kind : Nodes → Act → Node → Bool
is_of_kind ns (acts.User k text) n = has_kept_value n || is_textarea n
is_of_kind ns (acts.Set k text) n = is_textarea n || (is_input n && (not (is_file n) || is_empty_text text))
is_of_kind ns (acts.Attr k name value) n = true
is_of_kind ns (acts.Text k text) n = is_textarea n || is_option n
is_of_kind ns (acts.Check k on) n = is_checkbox n || (on && is_radio n)
is_of_kind ns (acts.SetChecked k on) n = is_input n
is_of_kind ns (acts.Pick k) n = is_some (select_of ns k)
is_of_kind ns (acts.SetSelected k on) n = is_some (select_of ns k)
is_of_kind ns (acts.Custom k text) n = is_submittable n
is_of_kind ns (acts.Choose k files) n = is_file n
is_of_kind ns (acts.Withdraw file) n = true
is_of_kind ns (acts.Reset k) n = is_form n

-- the user cannot change it: it is disabled, or not mutable (HTML, "The readonly attribute")
abbrev pub is_immutable : Nodes → Act → Node → Bool
is_immutable ns (acts.User k text) n = not (is_mutable ns k)
is_immutable ns (acts.Check k on) n = is_disabled ns k
is_immutable ns (acts.Pick k) n = option_map_or (is_disabled ns) (select_of ns k) false || is_disabled_option ns n
is_immutable ns (acts.Choose k files) n = is_disabled ns k
is_immutable ns act n = false

-- it would come to the state email, which this engine does not have
abbrev pub makes_email : Act → Node → Bool
makes_email (acts.Attr k name value) n = is_input n && (bytes_eq name (codes "type") && names_email value)
makes_email act n = false

-- it names a file that is not there
abbrev pub lacks_file : List File → Act → Bool
lacks_file files (acts.Choose k numbers) = list_any (λ number. not (is_file_there files number)) numbers
lacks_file files (acts.Withdraw number) = not (is_file_there files number)
lacks_file files act = false

-- the element would have too many attributes, or too many files
abbrev pub is_beyond : Act → Node → Bool
is_beyond (acts.Attr k name value) n =
    nat_lt MOST_ATTRIBUTES (length (changed_attr (role_of name) name value n).attrs)
is_beyond (acts.Set k text) n = nat_lt MOST_ATTRIBUTES (length (given text n).attrs)
is_beyond (acts.Choose k numbers) n = nat_lt 1 (length numbers) && not (has_attr (codes "multiple") n)
is_beyond act n = false

-- ---- the refusal

-- the first cause that holds of the element
abbrev pub refusal_at : Page → Act → Node → Option ActFault
refusal_at page act n =
    if not (is_of_kind page.tree.nodes act n) then Some faults.WrongKind
    else if is_immutable page.tree.nodes act n then Some faults.Immutable
    else if makes_email act n then Some faults.Email
    else if lacks_file page.files act then Some faults.NoFile
    else if is_beyond act n then Some faults.Limit
    else None

abbrev pub refusal_found : Page → Act → Option Node → Option ActFault
refusal_found page act None = Some faults.NoElement
refusal_found page act (Some n) = refusal_at page act n

abbrev pub refusal_by : Page → Act → Option Key → Option ActFault
refusal_by page act None = if lacks_file page.files act then Some faults.NoFile else None
refusal_by page act (Some k) = refusal_found page act (at_key page.tree.nodes k)

-- why the act is refused, if it is
abbrev pub refusal_of : Page → Act → Option ActFault
refusal_of page act = refusal_by page act (key_of act)

-- a fault has its cause: no memory, or the act is refused for it
abbrev pub IsCause : Page → Act → ActFault → Type 0
IsCause page act fault = (fault ≡ faults.Memory) ⊎ (refusal_of page act ≡ Some fault)
