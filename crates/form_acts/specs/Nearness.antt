-- How near an act comes to the controls of a page: how many there are whose flags may change by it,
-- and how many it names.
use Rattle.std.specs.Prelude.{ℕ, ◌+◌, ◌&&◌, ◌||◌, not, Bool, true, false, List, [], ◌∷◌, filter, length, Option, Some, None, codes}
use Rattle.std.specs.Bool.{beq}
use Rattle.std.specs.List.{list_any}
use Rattle.std.specs.Option.{option_map_or}
use Rattle.std.specs.Str.{bytes_eq}
use Rattle.form_tree.specs.declared.node.Key.{Key}
use Rattle.form_tree.specs.declared.node.Node.{Node}
use Rattle.form_tree.specs.declared.node.State.{State}
use Rattle.form_tree.specs.Elements.{has_attr, is_fieldset, is_optgroup, is_select, is_submittable, passes, same_key, same_owner}
use Rattle.form_tree.specs.Ownership.{ancestors, owner_of}
use Rattle.form_tree.specs.RadioGroup.{is_radio, share_group}
use Rattle.form_tree.specs.Selects.{is_option_of}
use Rattle.form_tree.specs.Tree.{Nodes, at_key, is_key}
use Rattle.form_page.specs.Page.{Page}
use Rattle.form_changes.specs.declared.act.Act.{Act}
use Rattle.form_changes.specs.declared.act.Act.TheVariants as acts
use Rattle.form_changes.specs.declared.act.ActFault.{ActFault}
use Rattle.form_drafts.specs.Resetting.{resettables}
use Rattle.form_acts.specs.Acts.{nodes_after_act}
use Rattle.form_acts.specs.Refusals.{refusal_of}

-- ---- what differs of one element

abbrev pub same_attrs : List (List ℕ × List ℕ) → List (List ℕ × List ℕ) → Bool
same_attrs [] [] = true
same_attrs [] (b ∷ others) = false
same_attrs (a ∷ attrs) [] = false
same_attrs (a ∷ attrs) (b ∷ others) = bytes_eq a.0 b.0 && bytes_eq a.1 b.1 && same_attrs attrs others

abbrev pub same_state : State → State → Bool
same_state a b =
    bytes_eq a.value b.value && beq a.dirty b.dirty && beq a.by_user b.by_user && bytes_eq a.typed b.typed
    && beq a.checked b.checked && beq a.dirty_checked b.dirty_checked && beq a.selected b.selected
    && beq a.dirty_selected b.dirty_selected && bytes_eq a.files b.files && bytes_eq a.message b.message

-- both are there with the same attributes, text and state, or neither is there
abbrev pub same_content : Option Node → Option Node → Bool
same_content None None = true
same_content None (Some b) = false
same_content (Some a) None = false
same_content (Some a) (Some b) = same_attrs a.attrs b.attrs && bytes_eq a.text b.text && same_state a.state b.state

-- the element of a key is another in u than in t, by its attributes, its text or its state
abbrev pub differs : Nodes → Nodes → Key → Bool
differs t u k = not (same_content (at_key t k) (at_key u k))

-- ---- whom a difference touches

-- m is a radio button in t or in u, and differs or has another form owner: its groups in both
abbrev pub touches_group : Nodes → Nodes → Key → Node → Bool
touches_group t u k m =
    (passes is_radio t m.key || passes is_radio u m.key)
    && (differs t u m.key || not (same_owner (owner_of t m.key) (owner_of u m.key)))
    && (share_group t m.key k || share_group u m.key k)

-- m is an optgroup of that select
abbrev pub is_optgroup_of : Nodes → Key → Node → Bool
is_optgroup_of t s m = passes is_select t s && is_optgroup m && option_map_or (same_key s) m.parent false

-- m is an option or an optgroup that differs: its select
abbrev pub touches_select : Nodes → Nodes → Key → Node → Bool
touches_select t u k m = (is_option_of t k m.key || is_optgroup_of t k m) && differs t u m.key

-- m is a fieldset that has `disabled` in one of the two alone: the controls in it
abbrev pub touches_controls : Nodes → Nodes → Key → Node → Bool
touches_controls t u k m =
    is_fieldset m
    && not (beq (passes (has_attr (codes "disabled")) t m.key) (passes (has_attr (codes "disabled")) u m.key))
    && list_any (is_key m.key) (ancestors t k)

-- the control differs itself, or another element's difference touches it
abbrev pub is_touched : Nodes → Nodes → Node → Bool
is_touched t u n =
    is_submittable n
    && (differs t u n.key
    || list_any (λ m. touches_group t u n.key m || touches_select t u n.key m || touches_controls t u n.key m) t)

abbrev pub touched : Nodes → Nodes → Nodes
touched t u = filter (is_touched t u) t

-- ---- acts

-- how many elements an act names: a reset each control that it resets, every other act one
abbrev pub named_count : Nodes → Act → ℕ
named_count ns (acts.Reset k) = length (resettables ns k)
named_count ns act = 1

abbrev pub nearness_by : Option ActFault → Nodes → Act → ℕ
nearness_by (Some fault) ns act = 0
nearness_by None ns act = length (touched ns (nodes_after_act ns act)) + named_count ns act

-- how many are touched or named; of a refused act none
abbrev pub nearness : Page → Act → ℕ
nearness page act = nearness_by (refusal_of page act) page.tree.nodes act
