-- What is seen of an element, and which elements are seen to change.
use Rattle.std.specs.Prelude.{ℕ, ◌&&◌, ◌||◌, not, Bool, true, false, List, map, filter, Option, Some, None, unwrap_or, if◌then◌else◌}
use Rattle.std.specs.Bool.{beq}
use Rattle.std.specs.Option.{option_and_then, option_map}
use Rattle.std.specs.Str.{bytes_eq}
use Rattle.form_types.specs.declared.kind.Kind.{Kind}
use Rattle.form_types.specs.declared.kind.Kind.TheVariants as kinds
use Rattle.form_tree.specs.declared.node.Key.{Key}
use Rattle.form_tree.specs.declared.node.Node.{Node}
use Rattle.form_tree.specs.Disabling.{is_candidate}
use Rattle.form_tree.specs.Elements.{is_input, is_option, is_submittable, kind_of}
use Rattle.form_tree.specs.RadioGroup.{is_checked}
use Rattle.form_tree.specs.Selects.{is_selected}
use Rattle.form_tree.specs.Tree.{Nodes, at_key}
use Rattle.form_tree.specs.Value.{value_at}
use Rattle.form_judge.specs.declared.flags.Flags.{Flags}
use Rattle.form_judge.specs.Flags.{facts_of, flags_of}
use Rattle.form_page.specs.declared.sight.Sight.{Sight}
use Rattle.form_page.specs.Page.{Page, names_of}

-- What is seen of a control or an option: its value, its checkedness and selectedness, whether it is
-- a candidate for constraint validation, and its flags.
pub record View : Type 0 where
  pub value : List ℕ
  pub checked : Bool
  pub selected : Bool
  pub candidate : Bool
  pub flags : Flags

-- of an option no flag holds
abbrev pub no_flags : Flags
no_flags = record {
  value_missing = false;
  type_mismatch = false;
  pattern_mismatch = false;
  too_long = false;
  too_short = false;
  range_underflow = false;
  range_overflow = false;
  step_mismatch = false;
  bad_input = false;
  custom_error = false;
}

-- ---- one element

-- the states in which an input's checkedness is seen
abbrev pub is_checkable_kind : Kind → Bool
is_checkable_kind kinds.Checkbox = true
is_checkable_kind kinds.Radio = true
is_checkable_kind kind = false

-- a checkbox or a radio button
abbrev pub is_checkable : Node → Bool
is_checkable n = is_input n && is_checkable_kind (kind_of n)

-- submittable elements and options are seen, and no others
abbrev pub is_seen : Node → Bool
is_seen n = is_submittable n || is_option n

-- the flags of a submittable element (HTML, "Constraint validation"); no other element has flags
abbrev pub verdict_of : Nodes → Node → Option Flags
verdict_of ns n = if is_submittable n then Some (flags_of n (facts_of ns n.key)) else None

-- What is seen of an element of the nodes, the files having these names. Its flags are a verdict,
-- where it has any.
abbrev pub sight_of : List (List ℕ) → Nodes → Node → Sight
sight_of names ns n = record {
  value = value_at names ns n;
  checked = is_checkable n && is_checked n;
  selected = is_option n && is_selected n;
  candidate = is_candidate ns n.key;
  verdict = verdict_of ns n;
}

abbrev pub sight_if : List (List ℕ) → Nodes → Node → Option Sight
sight_if names ns n = if is_seen n then Some (sight_of names ns n) else None

-- ---- by key

-- the sight of the element of a key; none where it is not there or not seen
abbrev pub sight_at : Page → Key → Option Sight
sight_at page k = option_and_then (sight_if (names_of page.files) page.tree.nodes) (at_key page.tree.nodes k)

abbrev pub view_by : Sight → View
view_by sight = record {
  value = sight.value;
  checked = sight.checked;
  selected = sight.selected;
  candidate = sight.candidate;
  flags = unwrap_or sight.verdict no_flags;
}

-- the view of the element of a key
abbrev pub view_of : Page → Key → Option View
view_of page k = option_map view_by (sight_at page k)

-- the value of a control or an option
abbrev pub value_of : Page → Key → Option (List ℕ)
value_of page k = option_map (λ sight. sight.value) (sight_at page k)

-- the flags of a submittable element
abbrev pub flags_of_key : Page → Key → Option Flags
flags_of_key page k = option_and_then (verdict_of page.tree.nodes) (at_key page.tree.nodes k)

-- whether a submittable element is a candidate for constraint validation
abbrev pub candidate_if : Nodes → Node → Option Bool
candidate_if ns n = if is_submittable n then Some (is_candidate ns n.key) else None

abbrev pub candidate_of : Page → Key → Option Bool
candidate_of page k = option_and_then (candidate_if page.tree.nodes) (at_key page.tree.nodes k)

-- ---- what changes

abbrev pub same_flags : Flags → Flags → Bool
same_flags a b =
    beq a.value_missing b.value_missing && beq a.type_mismatch b.type_mismatch
    && beq a.pattern_mismatch b.pattern_mismatch && beq a.too_long b.too_long
    && beq a.too_short b.too_short && beq a.range_underflow b.range_underflow
    && beq a.range_overflow b.range_overflow && beq a.step_mismatch b.step_mismatch
    && beq a.bad_input b.bad_input && beq a.custom_error b.custom_error

abbrev pub same_view : View → View → Bool
same_view a b =
    bytes_eq a.value b.value && beq a.checked b.checked && beq a.selected b.selected
    && beq a.candidate b.candidate && same_flags a.flags b.flags

-- both are not seen, or they are seen alike
abbrev pub same_views : Option View → Option View → Bool
same_views None None = true
same_views None (Some b) = false
same_views (Some a) None = false
same_views (Some a) (Some b) = same_view a b

-- the view of the element differs between two pages
abbrev pub is_changed : Page → Page → Key → Bool
is_changed before after k = not (same_views (view_of before k) (view_of after k))

-- the keys of the elements whose views differ, in the order of the second page
abbrev pub changes : Page → Page → List Key
changes before after = filter (is_changed before after) (map (λ n. n.key) after.tree.nodes)
