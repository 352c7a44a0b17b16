-- Changes of attributes keep a page settled, by what the attribute is for.
use Rattle.std.proofs.Common.{◌≡◌, ℕ, Bool, true, false, ◌&&◌, ◌||◌, cond, List, [], ◌∷◌, Option, Some, None, refl, sym, ap, ◌∙◌, subst, codes}
use Rattle.std.specs.Prelude.{unwrap_or}
use Rattle.std.specs.Str.{bytes_eq}
use Rattle.std.proofs.lemmas.Bool.{and_from, and_parts, cond_both, or_parts}
use Rattle.std.proofs.lemmas.Slice.Eq.{bytes_eq-Decides}
use Rattle.form_types.specs.declared.kind.Kind.{Kind}
use Rattle.form_types.specs.TypeTable.{mode_of}
use Rattle.form_states.specs.States.{sanitised}
use Rattle.form_tree.specs.declared.node.Key.{Key}
use Rattle.form_tree.specs.declared.node.Node.{Node}
use Rattle.form_tree.specs.Attributes.{set_attr}
use Rattle.form_tree.specs.Elements.{is_among, is_input, kind_of, passes}
use Rattle.form_tree.specs.RadioGroup.{is_checked, share_group}
use Rattle.form_tree.specs.Selects.{is_selected, share_select}
use Rattle.form_tree.specs.Tree.{Nodes, is_key, with_node}
use Rattle.form_tree.proofs.Laws.{KeepsElements, attr_other, names_still_differ}
use Rattle.form_judge.specs.Controls.{own_limits}
use Rattle.form_page.specs.Settling.{not_selected, off, with_radio, with_radios}
use Rattle.form_changes.specs.declared.role.Role.{Role}
use Rattle.form_changes.specs.declared.role.Role.TheVariants as roles
use Rattle.form_acts.specs.Acts.{after_attr, after_change, if_on, is_attr_change}
use Rattle.form_drafts.specs.Drafts.{with_select_of, with_selected}
use Rattle.form_changes.specs.Changing.{follows_checked, follows_selected, follows_value, role_of, with_checked, with_selected_as, with_value_text}
use Rattle.form_acts.specs.Soundness.{HasSanitisedValue, HasSoundMarks, IsSettled}
use Rattle.form_changes.specs.Values.{has_kept_value, is_range, is_range_kind, is_value_mode, with_value}
use Rattle.form_acts.proofs.ActLaws.{select_of_settled, selected_settled}
use Rattle.form_acts.proofs.Groups.{radio_marking, select_marking}
use Rattle.form_acts.proofs.Marks.{nobody, raised}
use Rattle.form_acts.proofs.Moves.{form_moves, id_moves, moving_settled}
use Rattle.form_acts.proofs.OneElement.{IsOfOne, one_changed}
use Rattle.form_acts.proofs.SelectAttrs.{multiple_is, size_is, size_settled}
use Rattle.form_acts.proofs.Sound.{IsSettledBut, all_where, groups_where, one_radio, selects_where, tree_where, value_settled, values_where}
use Rattle.form_acts.proofs.SoundLaws.{sound_but_nobody, sound_from}
use Rattle.form_acts.proofs.Still.{IsApart, IsNoLimit, IsStill, agreeing, changed_twice, kind_same, still_attr, still_by, still_none, still_of, still_one, still_sanitised, still_settled, still_then}
use Rattle.form_acts.proofs.TypeLaws.{type_settled}
use Rattle.form_changes.proofs.ValueLaws.{limits_apart}

-- ---- `value`, `min`, `max` and `step`

-- of no range, a value stays sanitised whatever the limits become
apart_sanitised : (name : List ℕ) → bytes_eq name (codes "type") ≡ false → (value : Option (List ℕ)) (n : Node) → is_range n ≡ false → HasSanitisedValue n → HasSanitisedValue (set_attr name value n)
apart_sanitised name apart value n other held kept =
    let m = set_attr name value n in
    let input : is_input n ≡ true = (and_parts (is_input n) _ kept).0 in
    let same : kind_of m ≡ kind_of n = kind_same name value apart n in
    let before : has_kept_value n ≡ true = and_from _ _ input (sym (ap (λ k. is_value_mode (mode_of k)) same) ∙ (and_parts (is_input n) _ kept).1) in
    let none : is_range_kind (kind_of n) ≡ false = rw input at other in
    ap (λ (k : Kind). sanitised k (own_limits m) n.state.value) same ∙ limits_apart (kind_of n) (own_limits m) (own_limits n) n.state.value none ∙ held before

module _ (name : List ℕ) (is : IsApart name) (value : Option (List ℕ)) where
  -- the attribute alone, where a test fails
  abbrev unless : (Node → Bool) → Node → Node
  unless test n = cond (test n) n (set_attr name value n)

  unless_still : (test : Node → Bool) → IsStill (unless test)
  unless_still test = still_by test (λ n. n) (set_attr name value) still_none (still_attr name is value)

  unless_sanitised : (test : Node → Bool) → ((n : Node) → test n ≡ false → is_range n ≡ false) → (n : Node) → HasSanitisedValue n → HasSanitisedValue (unless test n)
  unless_sanitised test none n h = cond_both (test n) n (set_attr name value n) HasSanitisedValue (λ _. h) (λ e. apart_sanitised name is.type value n (none n e) h)

  limit_settled : (t : Nodes) (k : Key) → IsSettled t → IsSettled (after_change roles.Limit t k name value)
  limit_settled t k sound = go (passes is_range t k) refl
    where
      after : Nodes
      after = with_node t k (set_attr name value)

      go : (b : Bool) → passes is_range t k ≡ b → IsSettled (cond b (with_value after k) after)
      go true e = sound_from _ (value_settled nobody nobody after k (still_one (set_attr name value) (still_attr name is value) t k (sound_but_nobody t sound)))
      go false e =
          subst IsSettled (sym (agreeing is_range false (set_attr name value) (unless is_range) (λ n other. rw other refl) t sound.tree k e))
          (still_settled (unless is_range) (unless_still is_range) (unless_sanitised is_range (λ n other. other)) t k sound)

  -- ---- attributes that nothing follows from

  plain_settled : IsNoLimit name → (t : Nodes) (k : Key) → IsSettled t → IsSettled (with_node t k (set_attr name value))
  plain_settled none t k sound = still_settled (set_attr name value) (still_attr name is value) (still_sanitised name none value) t k sound

value_apart : IsApart (codes "value")
value_apart = record { type = refl; name_attr = refl; form = refl; id = refl; multiple = refl }

value_text_still : (text : List ℕ) → IsStill (with_value_text text)
value_text_still text = still_of (with_value_text text) (record { key = λ n. refl; parent = λ n. refl; tag = λ n. refl; attrs = λ n. refl }) (λ n h. record { by_user = h.by_user; typed = h.typed }) (λ n h. h) (λ n h. h)

value_settled_by : (value : Option (List ℕ)) (t : Nodes) (k : Key) → IsSettled t → IsSettled (after_change roles.Value t k (codes "value") value)
value_settled_by value t k sound = go (passes asks t k) refl
  where
    asks : Node → Bool
    asks n = follows_value n || is_range n

    change : Node → Node
    change n = cond (follows_value n) (with_value_text (unwrap_or value []) (set_attr (codes "value") value n)) (set_attr (codes "value") value n)

    change_still : IsStill change
    change_still = still_by follows_value (λ n. with_value_text (unwrap_or value []) (set_attr (codes "value") value n)) (set_attr (codes "value") value)
        (still_then (set_attr (codes "value") value) (with_value_text (unwrap_or value [])) (still_attr (codes "value") value_apart value) (value_text_still (unwrap_or value []))) (still_attr (codes "value") value_apart value)

    go : (b : Bool) → passes asks t k ≡ b → IsSettled (cond b (with_value (with_node t k change) k) (with_node t k change))
    go true e = sound_from _ (value_settled nobody nobody (with_node t k change) k (still_one change change_still t k (sound_but_nobody t sound)))
    go false e =
        subst IsSettled (sym (agreeing asks false change (unless (codes "value") value_apart value asks) same t sound.tree k e))
        (still_settled (unless (codes "value") value_apart value asks) (unless_still (codes "value") value_apart value asks) (unless_sanitised (codes "value") value_apart value asks (λ n none. (or_parts (follows_value n) (is_range n) none).1)) t k sound)
      where
        same : (n : Node) → asks n ≡ false → change n ≡ unless (codes "value") value_apart value asks n
        same n none = rw (none, (or_parts (follows_value n) (is_range n) none).0) refl

-- ---- a mark that an attribute sets

-- a change of the state of one element that may check it
raise_checked : (h : Node → Node) → KeepsElements h → ((n : Node) → HasSoundMarks n → HasSoundMarks (h n)) → ((n : Node) → HasSanitisedValue n → HasSanitisedValue (h n)) → ((n : Node) → is_selected (h n) ≡ true → is_selected n ≡ true) → (t : Nodes) (k : Key) → IsSettledBut nobody nobody nobody t → IsSettledBut nobody (is_among (k ∷ [])) nobody (with_node t k h)
raise_checked h keeps marks values selected t k sound = record {
  tree = tree_where (is_key k) h keeps t sound.tree;
  marks = all_where HasSoundMarks (is_key k) h marks t sound.marks;
  values = values_where (is_key k) h keeps t values nobody sound.values;
  groups = raised share_group is_checked off radio_marking h keeps t k sound.groups;
  selects = selects_where (is_key k) h keeps t selected nobody sound.selects;
}

-- or select it
raise_selected : (h : Node → Node) → KeepsElements h → ((n : Node) → HasSoundMarks n → HasSoundMarks (h n)) → ((n : Node) → HasSanitisedValue n → HasSanitisedValue (h n)) → ((n : Node) → is_checked (h n) ≡ true → is_checked n ≡ true) → (t : Nodes) (k : Key) → IsSettledBut nobody nobody nobody t → IsSettledBut nobody nobody (is_among (k ∷ [])) (with_node t k h)
raise_selected h keeps marks values checked t k sound = record {
  tree = tree_where (is_key k) h keeps t sound.tree;
  marks = all_where HasSoundMarks (is_key k) h marks t sound.marks;
  values = values_where (is_key k) h keeps t values nobody sound.values;
  groups = groups_where (is_key k) h keeps t checked nobody sound.groups;
  selects = raised share_select is_selected not_selected select_marking h keeps t k sound.selects;
}

-- ---- `checked`

checked_apart : IsApart (codes "checked")
checked_apart = record { type = refl; name_attr = refl; form = refl; id = refl; multiple = refl }

checked_no_limit : IsNoLimit (codes "checked")
checked_no_limit = record { type = refl; min = refl; max = refl; step = refl; value = refl }

abbrev set_check : Option (List ℕ) → Node → Node
set_check value n = set_attr (codes "checked") value n

check_set : (value : Option (List ℕ)) (t : Nodes) (k : Key) → IsSettled t → IsSettled (with_node t k (set_check value))
check_set value t k sound = plain_settled (codes "checked") checked_apart value checked_no_limit t k sound

checked_settled : (value : Option (List ℕ)) (t : Nodes) (k : Key) → IsSettled t → IsSettled (after_change roles.Checked t k (codes "checked") value)
checked_settled None t k sound = none (passes (follows_checked false) t k)
  where
    change : Node → Node
    change n = cond (follows_checked false n) (with_checked false (set_check None n)) (set_check None n)

    off_still : IsStill (λ n. with_checked false (set_check None n))
    off_still = still_then (set_check None) (with_checked false) (still_attr (codes "checked") checked_apart None)
        (still_of (with_checked false) (record { key = λ n. refl; parent = λ n. refl; tag = λ n. refl; attrs = λ n. refl }) (λ n h. record { by_user = h.by_user; typed = h.typed }) (λ n h. absurd (cc)) (λ n h. h))

    after : IsSettled (with_node t k change)
    after = still_settled change (still_by (follows_checked false) (λ n. with_checked false (set_check None n)) (set_check None) off_still (still_attr (codes "checked") checked_apart None))
        (λ n h. cond_both (follows_checked false n) (with_checked false (set_check None n)) (set_check None n) HasSanitisedValue (λ _. still_sanitised (codes "checked") checked_no_limit None n h) (λ _. still_sanitised (codes "checked") checked_no_limit None n h)) t k sound

    none : (b : Bool) → IsSettled (with_radios (with_node t k change) (if_on (b && false) k))
    none true = after
    none false = after
checked_settled (Some value) t k sound = go (passes (follows_checked true) t k) refl
  where
    set : Node → Node
    set n = set_check (Some value) n

    change : Node → Node
    change n = cond (follows_checked true n) (with_checked true (set n)) (set n)

    where_kept : Node → Node
    where_kept n = cond (follows_checked true n) n (set n)

    go : (b : Bool) → passes (follows_checked true) t k ≡ b → IsSettled (with_radios (with_node t k change) (if_on (b && true) k))
    go true e =
        let same : with_node t k change ≡ with_node (with_node t k set) k (with_checked true) =
        agreeing (follows_checked true) true change (λ n. with_checked true (set n)) (λ n follows. rw follows refl) t sound.tree k e ∙ sym (changed_twice set (with_checked true) (λ n. refl) t k) in
        subst (λ (u : Nodes). IsSettled (with_radio u k)) (sym same)
        (sound_from _ (one_radio nobody nobody k [] (with_node (with_node t k set) k (with_checked true))
        (raise_checked (with_checked true) (record { key = λ n. refl; parent = λ n. refl; tag = λ n. refl; attrs = λ n. refl }) (λ n h. record { by_user = h.by_user; typed = h.typed }) (λ n h. h) (λ n h. h) (with_node t k set) k (sound_but_nobody _ (check_set (Some value) t k sound)))))
    go false e =
        subst IsSettled (sym (agreeing (follows_checked true) false change where_kept (λ n stays. rw stays refl) t sound.tree k e))
        (still_settled where_kept (still_by (follows_checked true) (λ n. n) set still_none (still_attr (codes "checked") checked_apart (Some value)))
        (λ n h. cond_both (follows_checked true n) n (set n) HasSanitisedValue (λ _. h) (λ _. still_sanitised (codes "checked") checked_no_limit (Some value) n h)) t k sound)

-- ---- `selected`

selected_apart : IsApart (codes "selected")
selected_apart = record { type = refl; name_attr = refl; form = refl; id = refl; multiple = refl }

selected_no_limit : IsNoLimit (codes "selected")
selected_no_limit = record { type = refl; min = refl; max = refl; step = refl; value = refl }

abbrev set_select : Option (List ℕ) → Node → Node
set_select value n = set_attr (codes "selected") value n

selected_set : (value : Option (List ℕ)) (t : Nodes) (k : Key) → IsSettled t → IsSettled (with_node t k (set_select value))
selected_set value t k sound = plain_settled (codes "selected") selected_apart value selected_no_limit t k sound

selection_attr_settled : (value : Option (List ℕ)) (t : Nodes) (k : Key) → IsSettled t → IsSettled (after_change roles.Selected t k (codes "selected") value)
selection_attr_settled None t k sound = none (passes (follows_selected false) t k)
  where
    change : Node → Node
    change n = cond (follows_selected false n) (with_selected_as false (set_select None n)) (set_select None n)

    off_still : IsStill (λ n. with_selected_as false (set_select None n))
    off_still = still_then (set_select None) (with_selected_as false) (still_attr (codes "selected") selected_apart None)
        (still_of (with_selected_as false) (record { key = λ n. refl; parent = λ n. refl; tag = λ n. refl; attrs = λ n. refl }) (λ n h. record { by_user = h.by_user; typed = h.typed }) (λ n h. h) (λ n h. absurd (cc)))

    after : IsSettled (with_node t k change)
    after = still_settled change (still_by (follows_selected false) (λ n. with_selected_as false (set_select None n)) (set_select None) off_still (still_attr (codes "selected") selected_apart None))
        (λ n h. cond_both (follows_selected false n) (with_selected_as false (set_select None n)) (set_select None n) HasSanitisedValue (λ _. still_sanitised (codes "selected") selected_no_limit None n h) (λ _. still_sanitised (codes "selected") selected_no_limit None n h)) t k sound

    none : (b : Bool) → IsSettled (cond b (with_select_of (with_selected (with_node t k change) k false) k) (with_node t k change))
    none true = sound_from _ (select_of_settled (with_node t k change) k (sound_but_nobody _ after))
    none false = after
selection_attr_settled (Some value) t k sound = go (passes (follows_selected true) t k) refl
  where
    set : Node → Node
    set n = set_select (Some value) n

    change : Node → Node
    change n = cond (follows_selected true n) (with_selected_as true (set n)) (set n)

    where_kept : Node → Node
    where_kept n = cond (follows_selected true n) n (set n)

    go : (b : Bool) → passes (follows_selected true) t k ≡ b → IsSettled (cond b (with_select_of (with_selected (with_node t k change) k true) k) (with_node t k change))
    go true e =
        let same : with_node t k change ≡ with_node (with_node t k set) k (with_selected_as true) =
        agreeing (follows_selected true) true change (λ n. with_selected_as true (set n)) (λ n follows. rw follows refl) t sound.tree k e ∙ sym (changed_twice set (with_selected_as true) (λ n. refl) t k) in
        subst (λ (u : Nodes). IsSettled (with_select_of (with_selected u k true) k)) (sym same)
        (sound_from _ (select_of_settled _ k (selected_settled (with_node (with_node t k set) k (with_selected_as true)) k true
        (raise_selected (with_selected_as true) (record { key = λ n. refl; parent = λ n. refl; tag = λ n. refl; attrs = λ n. refl }) (λ n h. record { by_user = h.by_user; typed = h.typed }) (λ n h. h) (λ n h. h) (with_node t k set) k (sound_but_nobody _ (selected_set (Some value) t k sound))))))
    go false e =
        subst IsSettled (sym (agreeing (follows_selected true) false change where_kept (λ n stays. rw stays refl) t sound.tree k e))
        (still_settled where_kept (still_by (follows_selected true) (λ n. n) set still_none (still_attr (codes "selected") selected_apart (Some value)))
        (λ n h. cond_both (follows_selected true n) n (set n) HasSanitisedValue (λ _. h) (λ _. still_sanitised (codes "selected") selected_no_limit (Some value) n h)) t k sound)

-- ---- `name`

name_no_limit : IsNoLimit (codes "name")
name_no_limit = record { type = refl; min = refl; max = refl; step = refl; value = refl }

name_of_one : (value : Option (List ℕ)) → IsOfOne (set_attr (codes "name") value)
name_of_one value = record {
  owners = record { key = λ n. refl; parent = λ n. refl; tag = λ n. refl; form = λ n. attr_other (codes "name") (codes "form") value refl n.attrs; id = λ n. attr_other (codes "name") (codes "id") value refl n.attrs };
  multiple = λ n. attr_other (codes "name") (codes "multiple") value refl n.attrs;
  names = λ n differ. names_still_differ (codes "name") value n.attrs differ;
  marks = λ n h. record { by_user = h.by_user; typed = h.typed };
  selected = λ n. refl;
}

name_settled : (value : Option (List ℕ)) (t : Nodes) (k : Key) → IsSettled t → IsSettled (after_change roles.Name t k (codes "name") value)
name_settled value t k sound =
    let before = sound_but_nobody t sound in
    let raw = one_changed (set_attr (codes "name") value) (name_of_one value) t k before in
    let kept : IsSettledBut nobody (is_among (k ∷ [])) nobody (with_node t k (set_attr (codes "name") value)) = record {
      tree = raw.tree;
      marks = raw.marks;
      values = all_where (λ n. false ≡ false → HasSanitisedValue n) (is_key k) (set_attr (codes "name") value) (λ n h e. still_sanitised (codes "name") name_no_limit value n (h e)) t before.values;
      groups = raw.groups;
      selects = raw.selects;
    } in
    sound_from _ (one_radio nobody nobody k [] (with_node t k (set_attr (codes "name") value)) kept)

-- ---- every name

min_apart : IsApart (codes "min")
min_apart = record { type = refl; name_attr = refl; form = refl; id = refl; multiple = refl }

max_apart : IsApart (codes "max")
max_apart = record { type = refl; name_attr = refl; form = refl; id = refl; multiple = refl }

step_apart : IsApart (codes "step")
step_apart = record { type = refl; name_attr = refl; form = refl; id = refl; multiple = refl }

module _ (value : Option (List ℕ)) (t : Nodes) (k : Key) (sound : IsSettled t) where
  -- what is to be shown of a name and its role
  abbrev Goal : List ℕ → Role → Type 0
  Goal name role = IsSettled (after_change role t k name value)

  -- a name that is this word, or is not
  either : (name word : List ℕ) (this rest : Role) → Goal word this → (bytes_eq name word ≡ false → Goal name rest) → Goal name (cond (bytes_eq name word) this rest)
  either name word this rest is other = go (bytes_eq name word) refl
    where
      go : (b : Bool) → bytes_eq name word ≡ b → Goal name (cond b this rest)
      go true e = subst (λ (n : List ℕ). Goal n this) (sym ((bytes_eq-Decides name word).0 e)) is
      go false e = other e

  pub change_settled : (name : List ℕ) → Goal name (role_of name)
  change_settled name =
      either name (codes "type") roles.Type _ (type_settled value t k sound) (λ type.
      either name (codes "value") roles.Value _ (value_settled_by value t k sound) (λ value_.
      either name (codes "min") roles.Limit _ (limit_settled (codes "min") min_apart value t k sound) (λ min.
      either name (codes "max") roles.Limit _ (limit_settled (codes "max") max_apart value t k sound) (λ max.
      either name (codes "step") roles.Limit _ (limit_settled (codes "step") step_apart value t k sound) (λ step.
      either name (codes "checked") roles.Checked _ (checked_settled value t k sound) (λ checked.
      either name (codes "name") roles.Name _ (name_settled value t k sound) (λ name_.
      either name (codes "id") roles.Owner _ (moving_settled (codes "id") id_moves value t k sound) (λ id.
      either name (codes "form") roles.Owner _ (moving_settled (codes "form") form_moves value t k sound) (λ form.
      either name (codes "selected") roles.Selected _ (selection_attr_settled value t k sound) (λ selected.
      either name (codes "multiple") roles.Size _ (size_settled (codes "multiple") multiple_is value t k sound) (λ multiple.
      either name (codes "size") roles.Size roles.Plain (size_settled (codes "size") size_is value t k sound) (λ size.
      plain_settled name (record { type = type; name_attr = name_; form = form; id = id; multiple = multiple }) value (record { type = type; min = min; max = max; step = step; value = value_ }) t k sound))))))))))))

  pub attr_settled : (name : List ℕ) → IsSettled (after_attr t k name value)
  attr_settled name = go (is_attr_change t k name value)
    where
      go : (b : Bool) → IsSettled (cond b (after_change (role_of name) t k name value) t)
      go true = change_settled name
      go false = sound
