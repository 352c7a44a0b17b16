-- An attribute set, and what follows it, as the change of one element.
use Rattle.std.proofs.Common.{◌≡◌, ℕ, Bool, true, false, not, ◌&&◌, cond, List, [], Option, Some, None, is_some, unwrap_or, codes, refl, sym, ap, ap₂, ◌∙◌}
use Rattle.std.specs.Option.{option_and_then, option_map, option_map_or}
use denote.Enum.Bare.{sameb}
use Rattle.form_types.specs.contracts.kind.Kind.{the_type as Kinds}
use Rattle.form_types.specs.declared.kind.Kind.{Kind}
use Rattle.form_tree.proofs.Laws.{passes_found}
use Rattle.form_tree.specs.declared.node.Key.{Key}
use Rattle.form_tree.specs.declared.node.Node.{Node}
use Rattle.form_tree.specs.declared.node.State.{State}
use Rattle.form_tree.specs.Attributes.{set_attr, with_attr}
use Rattle.form_tree.specs.Elements.{is_input, kind_of}
use Rattle.form_tree.specs.Tree.{IsTree, Nodes, at_key, with_node, with_state}
use Rattle.form_page.specs.Settling.{with_radio, with_radios}
use Rattle.form_changes.proofs.AttrCounts.{kind_made}
use Rattle.form_drafts.proofs.DraftLaws.{at_changed, attr_then_put, none_changed, put_changed, same_changed, twice_changed}
use Rattle.form_changes.specs.declared.role.Role.TheVariants as roles
use Rattle.form_acts.specs.Acts.{after_change, if_on}
use Rattle.form_changes.specs.Changing.{changed_attr, changes_state, follows_checked, follows_selected, follows_value, same_kind, with_checked, with_kind, with_selected_as, with_value_text}
use Rattle.form_changes.specs.Counting.{moves_value, value_moved}
use Rattle.form_changes.specs.Values.{with_value}

module _ (ns : Nodes) (k : Key) (name : List ℕ) (value : Option (List ℕ)) where
  -- nothing is set where there is no element
  pub attr_nowhere : (f : Node → Node) → at_key ns k ≡ None → with_attr ns k name value ≡ with_node ns k f
  attr_nowhere f none = none_changed ns k (set_attr name value) none ∙ sym (none_changed ns k f none)

  -- ---- a change of the state of an input

  abbrev test : Node → Bool
  test = changes_state name value

  abbrev made : Nodes
  made = with_node ns k (changed_attr roles.Type name value)

  pub type_nowhere : at_key ns k ≡ None → with_attr ns k name value ≡ after_change roles.Type ns k name value
  type_nowhere none =
      attr_nowhere (changed_attr roles.Type name value) none
      ∙ ap (λ (o : Option Node). cond (option_map_or test o false) (with_value (with_radio made k) k) made) (sym none)

  module _ (tree : IsTree ns) (n : Node) (found : at_key ns k ≡ Some n) where
    pub type_still : test n ≡ false → with_attr ns k name value ≡ after_change roles.Type ns k name value
    type_still still =
        same_changed ns tree k n found (set_attr name value) (changed_attr roles.Type name value) (ap (λ (b : Bool). cond b (with_kind (kind_of n) (kind_of (set_attr name value n)) (set_attr name value n)) (set_attr name value n)) (sym still))
        ∙ ap (λ (b : Bool). cond b (with_value (with_radio made k) k) made) (sym (passes_found test ns k n found ∙ still))

    pub type_changed : (from to : Kind) → from ≡ kind_of n → to ≡ kind_of (set_attr name value n) → test n ≡ true → with_value (with_radio (with_node (with_attr ns k name value) k (with_kind from to)) k) k ≡ after_change roles.Type ns k name value
    type_changed from to is_from is_to changes =
        ap (λ (u : Nodes). with_value (with_radio u k) k)
        (twice_changed ns k (set_attr name value) (with_kind from to) (λ m. refl)
        ∙ same_changed ns tree k n found (λ m. with_kind from to (set_attr name value m)) (changed_attr roles.Type name value)
        (ap₂ (λ (a b : Kind). with_kind a b (set_attr name value n)) is_from is_to
        ∙ ap (λ (b : Bool). cond b (with_kind (kind_of n) (kind_of (set_attr name value n)) (set_attr name value n)) (set_attr name value n)) (sym changes)))
        ∙ ap (λ (b : Bool). cond b (with_value (with_radio made k) k) made) (sym (passes_found test ns k n found ∙ changes))

    -- ---- a state that follows the attribute

    pub value_still : false ≡ follows_value n → with_attr ns k name value ≡ with_node ns k (changed_attr roles.Value name value)
    value_still still = same_changed ns tree k n found (set_attr name value) (changed_attr roles.Value name value) (ap (λ (b : Bool). cond b (with_value_text (unwrap_or value []) (set_attr name value n)) (set_attr name value n)) still)

    pub value_followed : (state : State) → true ≡ follows_value n → state ≡ record n.state { value = unwrap_or value [] } → with_state (with_attr ns k name value) k state ≡ with_node ns k (changed_attr roles.Value name value)
    value_followed state follows is =
        attr_then_put ns tree k n found name value state (changed_attr roles.Value name value)
        (ap (λ (s : State). let x : Node = record (set_attr name value n) { state = s } in x) is ∙ ap (λ (b : Bool). cond b (with_value_text (unwrap_or value []) (set_attr name value n)) (set_attr name value n)) follows)

    pub checked_still : (there : Bool) → there ≡ is_some value → false ≡ follows_checked there n → with_attr ns k name value ≡ with_node ns k (changed_attr roles.Checked name value)
    checked_still there is still = same_changed ns tree k n found (set_attr name value) (changed_attr roles.Checked name value) (ap (λ (b : Bool). cond b (with_checked (is_some value) (set_attr name value n)) (set_attr name value n)) (still ∙ ap (λ (b : Bool). follows_checked b n) is))

    pub checked_followed : (there : Bool) → there ≡ is_some value → (state : State) → true ≡ follows_checked there n → state ≡ record n.state { checked = there } → with_state (with_attr ns k name value) k state ≡ with_node ns k (changed_attr roles.Checked name value)
    checked_followed there is state follows made =
        attr_then_put ns tree k n found name value state (changed_attr roles.Checked name value)
        (ap (λ (s : State). let x : Node = record (set_attr name value n) { state = s } in x) (made ∙ ap (λ (b : Bool). let x : State = record n.state { checked = b } in x) is)
        ∙ ap (λ (b : Bool). cond b (with_checked (is_some value) (set_attr name value n)) (set_attr name value n)) (follows ∙ ap (λ (b : Bool). follows_checked b n) is))

    pub selected_still : (there : Bool) → there ≡ is_some value → false ≡ follows_selected there n → with_attr ns k name value ≡ with_node ns k (changed_attr roles.Selected name value)
    selected_still there is still = same_changed ns tree k n found (set_attr name value) (changed_attr roles.Selected name value) (ap (λ (b : Bool). cond b (with_selected_as (is_some value) (set_attr name value n)) (set_attr name value n)) (still ∙ ap (λ (b : Bool). follows_selected b n) is))

    pub selected_followed : (there : Bool) → there ≡ is_some value → (state : State) → true ≡ follows_selected there n → state ≡ record n.state { selected = there } → with_state (with_attr ns k name value) k state ≡ with_node ns k (changed_attr roles.Selected name value)
    selected_followed there is state follows made =
        attr_then_put ns tree k n found name value state (changed_attr roles.Selected name value)
        (ap (λ (s : State). let x : Node = record (set_attr name value n) { state = s } in x) (made ∙ ap (λ (b : Bool). let x : State = record n.state { selected = b } in x) is)
        ∙ ap (λ (b : Bool). cond b (with_selected_as (is_some value) (set_attr name value n)) (set_attr name value n)) (follows ∙ ap (λ (b : Bool). follows_selected b n) is))

-- a change from one state to another, its attribute and its state apart
pub kind_step : (ns : Nodes) → IsTree ns → (k : Key) (from to : Kind) (moved : Option (List ℕ)) (state : Option State) → moved ≡ option_and_then (value_moved from to) (at_key ns k) → state ≡ option_map (λ n. (with_kind from to n).state) (at_key ns k)
    → option_map_or (with_state (option_map_or (λ v. with_attr ns k (codes "value") (Some v)) moved ns) k) state (option_map_or (λ v. with_attr ns k (codes "value") (Some v)) moved ns) ≡ with_node ns k (with_kind from to)
kind_step ns tree k from to moved state is_moved is_state = rw (is_moved, is_state) (go (at_key ns k) refl)
  where
    after : Option (List ℕ) → Nodes
    after o = option_map_or (λ v. with_attr ns k (codes "value") (Some v)) o ns

    go : (o : Option Node) → at_key ns k ≡ o
        → option_map_or (with_state (after (option_and_then (value_moved from to) o)) k) (option_map (λ n. (with_kind from to n).state) o) (after (option_and_then (value_moved from to) o)) ≡ with_node ns k (with_kind from to)
    go None found = sym (none_changed ns k (with_kind from to) found)
    go (Some n) found = at (moves_value from to n) refl
      where
        s : State
        s = (with_kind from to n).state

        own : (b : Bool) → moves_value from to n ≡ b → record (cond b (set_attr (codes "value") (Some n.state.value) n) n) { state = s } ≡ with_kind from to n
        own b e = ap (λ (c : Bool). record (cond c (set_attr (codes "value") (Some n.state.value) n) n) { state = s }) (sym e) ∙ sym (kind_made from to n)

        at : (b : Bool) → moves_value from to n ≡ b → with_state (after (cond b (Some n.state.value) None)) k s ≡ with_node ns k (with_kind from to)
        at true e = attr_then_put ns tree k n found (codes "value") (Some n.state.value) s (with_kind from to) (own true e)
        at false e = put_changed ns tree k n found s (with_kind from to) (own false e)

-- whether an input comes from one state to another
pub kinds_changed : (n m : Node) (from to : Kind) (b : Bool) → from ≡ kind_of n → to ≡ kind_of m → b ≡ (is_input n && not (sameb Kinds from to)) → (is_input n && not (same_kind n m)) ≡ b
kinds_changed n m from to b is_from is_to e = sym (e ∙ ap₂ (λ (x y : Kind). is_input n && not (sameb Kinds x y)) is_from is_to)

-- the state that is read after the attribute was set
pub kind_read : (ns read : Nodes) (k : Key) (n : Node) (name : List ℕ) (value : Option (List ℕ)) (from to : Kind) → at_key ns k ≡ Some n → read ≡ with_attr ns k name value → to ≡ option_map_or kind_of (at_key read k) from → to ≡ kind_of (set_attr name value n)
kind_read ns read k n name value from to found same is =
    is ∙ ap (λ (o : Option Node). option_map_or kind_of o from) (ap (λ (xs : Nodes). at_key xs k) same ∙ at_changed ns k n (set_attr name value) (λ m. refl) found)

-- the radio button that the attribute checks, if it does
pub radios_if : (b : Bool) (u : Nodes) (k : Key) → with_radios u (if_on b k) ≡ cond b (with_radio u k) u
radios_if true u k = refl
radios_if false u k = refl
