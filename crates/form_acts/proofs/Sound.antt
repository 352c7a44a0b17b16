-- Trees that are sound but for what a change has touched. A raw change says what it spares, and
-- each step that follows takes one exception away.
use Rattle.std.proofs.Common.{◌≡◌, Bool, true, false, not, ◌&&◌, ◌==◌, cond, List, [], ◌∷◌, map, Option, Some, None, refl, sym, ◌∙◌, subst, codes}
use Rattle.std.specs.List.{All}
use Rattle.std.specs.Option.{option_map_or}
use Rattle.std.proofs.lemmas.Bool.{both_ways, cond_both}
use Rattle.std.proofs.lemmas.List.Elements.{All-map, All-weaker}
use Rattle.form_acts.proofs.Groups.{radio_marking, select_marking}
use Rattle.form_acts.proofs.Marks.{OneMarkedBut, anybody, fewer, nobody, passed_by, taken}
use Rattle.form_acts.proofs.Selectedness.{selectedness_settled}
use Rattle.form_acts.specs.Soundness.{HasSanitisedValue, HasSoundMarks}
use Rattle.form_changes.specs.Values.{has_kept_value, sanitised_in, with_sanitised_value, with_value}
use Rattle.form_page.specs.Settling.{changed_but, first_enabled, last_selected, not_selected, now_selected, off, with_last, with_radio, with_radios, with_selectedness, with_selection}
use Rattle.form_drafts.proofs.Mild.{changed_where}
use Rattle.form_changes.proofs.ValueLaws.{sanitised_again}
use Rattle.form_tree.proofs.Laws.{KeepsElements, keeps_where}
use Rattle.form_tree.specs.Elements.{is_among, kind_of, passes, same_key}
use Rattle.form_tree.specs.RadioGroup.{is_checked, share_group}
use Rattle.form_tree.specs.Selects.{display_size, is_multiple, is_option_of, is_selected, share_select}
use Rattle.form_tree.specs.Tree.{IsTree, NamesDiffer, Nodes, attr_in, is_key, shape_of, with_node}
use Rattle.form_tree.specs.declared.node.Key.{Key}
use Rattle.form_tree.specs.declared.node.Node.{Node}

-- A tree that is sound but for the values, the groups and the selects of spared keys.
pub record IsSettledBut (raw grouped chosen : Key → Bool) (t : Nodes) : Type 0 where
  pub tree : IsTree t
  pub marks : All HasSoundMarks t
  pub values : All (λ n. raw n.key ≡ false → HasSanitisedValue n) t
  pub groups : OneMarkedBut share_group is_checked grouped t
  pub selects : OneMarkedBut share_select is_selected chosen t

-- ---- what a change keeps

pub all_where : (P : Node → Type 0) (test : Node → Bool) (f : Node → Node) → ((n : Node) → P n → P (f n)) → (t : Nodes) → All P t → All P (changed_where test f t)
all_where P test f each t all =
    All-map P (λ n. cond (test n) (f n) n) t (All-weaker P (λ n. P (cond (test n) (f n) n)) (λ n h. cond_both (test n) (f n) n P (λ _. each n h) (λ _. h)) t all)

pub shape_kept : (f : Node → Node) → ((n : Node) → (f n).key ≡ n.key) → ((n : Node) → (f n).parent ≡ n.parent) → (t : Nodes) → shape_of (map f t) ≡ shape_of t
shape_kept f keys parents [] = refl
shape_kept f keys parents (n ∷ t) = rw (keys n, parents n, shape_kept f keys parents t) refl

pub tree_kept : (f : Node → Node) → KeepsElements f → (t : Nodes) → IsTree t → IsTree (map f t)
tree_kept f keeps t tree = record {
  shape = rw (shape_kept f keeps.key keeps.parent t) tree.shape;
  names = All-map (λ n. NamesDiffer n.attrs) f t (All-weaker (λ n. NamesDiffer n.attrs) (λ n. NamesDiffer (f n).attrs) (λ n h. subst NamesDiffer (sym (keeps.attrs n)) h) t tree.names);
}

module _ (test : Node → Bool) (f : Node → Node) (keeps : KeepsElements f) (t : Nodes) where
  pub tree_where : IsTree t → IsTree (changed_where test f t)
  tree_where tree = tree_kept _ (keeps_where test f keeps) t tree

  pub values_where : ((n : Node) → HasSanitisedValue n → HasSanitisedValue (f n)) → (raw : Key → Bool) → All (λ n. raw n.key ≡ false → HasSanitisedValue n) t → All (λ n. raw n.key ≡ false → HasSanitisedValue n) (changed_where test f t)
  values_where value raw values =
      all_where (λ n. raw n.key ≡ false → HasSanitisedValue n) test f (λ n h spared. value n (h (subst (λ (i : Key). raw i ≡ false) (keeps.key n) spared))) t values

  pub groups_where : ((n : Node) → is_checked (f n) ≡ true → is_checked n ≡ true) → (grouped : Key → Bool) → OneMarkedBut share_group is_checked grouped t → OneMarkedBut share_group is_checked grouped (changed_where test f t)
  groups_where less grouped groups =
      fewer share_group is_checked off radio_marking _ (keeps_where test f keeps) (λ n. cond_both (test n) (f n) n (λ m. is_checked m ≡ true → is_checked n ≡ true) (λ _. less n) (λ _ h. h)) grouped t groups

  pub selects_where : ((n : Node) → is_selected (f n) ≡ true → is_selected n ≡ true) → (chosen : Key → Bool) → OneMarkedBut share_select is_selected chosen t → OneMarkedBut share_select is_selected chosen (changed_where test f t)
  selects_where less chosen selects =
      fewer share_select is_selected not_selected select_marking _ (keeps_where test f keeps) (λ n. cond_both (test n) (f n) n (λ m. is_selected m ≡ true → is_selected n ≡ true) (λ _. less n) (λ _ h. h)) chosen t selects

-- ---- the steps, each of which takes one exception away

-- a state's checkedness or selectedness alone
unchecked_keeps : KeepsElements off
unchecked_keeps = record { key = λ n. refl; parent = λ n. refl; tag = λ n. refl; attrs = λ n. refl }

unselected_keeps : KeepsElements not_selected
unselected_keeps = record { key = λ n. refl; parent = λ n. refl; tag = λ n. refl; attrs = λ n. refl }

selected_keeps : KeepsElements now_selected
selected_keeps = record { key = λ n. refl; parent = λ n. refl; tag = λ n. refl; attrs = λ n. refl }

pub same_marks : (f : Node → Node) → ((n : Node) → (f n).state.by_user ≡ n.state.by_user) → ((n : Node) → (f n).state.dirty ≡ n.state.dirty) → ((n : Node) → (f n).state.typed ≡ n.state.typed) → (n : Node) → HasSoundMarks n → HasSoundMarks (f n)
same_marks f by_user dirty typed n h = record {
  by_user = λ e. dirty n ∙ h.by_user (sym (by_user n) ∙ e);
  typed = λ e. typed n ∙ h.typed (sym (by_user n) ∙ e);
}

module _ (raw : Key → Bool) where
  -- others of a group are unchecked
  unchecks : (grouped chosen : Key → Bool) (test : Node → Bool) (t : Nodes) → IsSettledBut raw grouped chosen t → IsSettledBut raw grouped chosen (changed_where test off t)
  unchecks grouped chosen test t sound = record {
    tree = tree_where test off unchecked_keeps t sound.tree;
    marks = all_where HasSoundMarks test off (same_marks off (λ n. refl) (λ n. refl) (λ n. refl)) t sound.marks;
    values = values_where test off unchecked_keeps t (λ n h. h) raw sound.values;
    groups = groups_where test off unchecked_keeps t (λ n h. absurd (cc)) grouped sound.groups;
    selects = selects_where test off unchecked_keeps t (λ n h. h) chosen sound.selects;
  }

  -- others of a select are unselected
  unselects : (grouped chosen : Key → Bool) (test : Node → Bool) (t : Nodes) → IsSettledBut raw grouped chosen t → IsSettledBut raw grouped chosen (changed_where test not_selected t)
  unselects grouped chosen test t sound = record {
    tree = tree_where test not_selected unselected_keeps t sound.tree;
    marks = all_where HasSoundMarks test not_selected (same_marks not_selected (λ n. refl) (λ n. refl) (λ n. refl)) t sound.marks;
    values = values_where test not_selected unselected_keeps t (λ n h. h) raw sound.values;
    groups = groups_where test not_selected unselected_keeps t (λ n h. h) grouped sound.groups;
    selects = selects_where test not_selected unselected_keeps t (λ n h. absurd (cc)) chosen sound.selects;
  }

  pub one_radio : (chosen : Key → Bool) (k : Key) (ks : List Key) (t : Nodes) → IsSettledBut raw (is_among (k ∷ ks)) chosen t → IsSettledBut raw (is_among ks) chosen (with_radio t k)
  one_radio chosen k ks t sound = go (passes is_checked t k) refl
    where
      go : (b : Bool) → passes is_checked t k ≡ b → IsSettledBut raw (is_among ks) chosen (cond b (changed_but off (share_group t k) k t) t)
      go true e =
          let after = unchecks (is_among (k ∷ ks)) chosen (λ n. share_group t k n.key && not (is_key k n)) t sound in
          record { tree = after.tree; marks = after.marks; values = after.values; groups = taken share_group is_checked off radio_marking t k ks sound.groups; selects = after.selects }
      go false e =
          record { tree = sound.tree; marks = sound.marks; values = sound.values; groups = passed_by share_group is_checked off radio_marking t k ks e sound.groups; selects = sound.selects }

  -- the radio buttons of a list: no group is spared any more
  pub radios_settled : (chosen : Key → Bool) (t : Nodes) (ks : List Key) → IsSettledBut raw (is_among ks) chosen t → IsSettledBut raw nobody chosen (with_radios t ks)
  radios_settled chosen t [] sound = sound
  radios_settled chosen t (k ∷ ks) sound = radios_settled chosen (with_radio t k) ks (one_radio chosen k ks t sound)

  -- the others of the select of an option that was selected
  pub selection_settled : (grouped : Key → Bool) (t : Nodes) (k : Key) → IsSettledBut raw grouped (is_among (k ∷ [])) t → IsSettledBut raw grouped nobody (with_selection t k)
  selection_settled grouped t k sound =
      let after = unselects grouped (is_among (k ∷ [])) (λ n. share_select t k n.key && not (is_key k n)) t sound in
      record { tree = after.tree; marks = after.marks; values = after.values; groups = after.groups; selects = taken share_select is_selected not_selected select_marking t k [] sound.selects }

  -- whatever becomes of the selects
  but_selects : (grouped chosen : Key → Bool) (t : Nodes) → IsSettledBut raw grouped chosen t → IsSettledBut raw grouped anybody t
  but_selects grouped chosen t sound = record { tree = sound.tree; marks = sound.marks; values = sound.values; groups = sound.groups; selects = λ j k shared differ mj mk. refl }

  selects_one : (grouped : Key → Bool) (test : Node → Bool) (t : Nodes) → IsSettledBut raw grouped anybody t → IsSettledBut raw grouped anybody (changed_where test now_selected t)
  selects_one grouped test t sound = record {
    tree = tree_where test now_selected selected_keeps t sound.tree;
    marks = all_where HasSoundMarks test now_selected (same_marks now_selected (λ n. refl) (λ n. refl) (λ n. refl)) t sound.marks;
    values = values_where test now_selected selected_keeps t (λ n h. h) raw sound.values;
    groups = groups_where test now_selected selected_keeps t (λ n h. h) grouped sound.groups;
    selects = λ j k shared differ mj mk. refl;
  }

  -- the selectedness setting algorithm on a select: that select is spared no more
  pub selectedness_kept : (grouped : Key → Bool) (t : Nodes) (s : Key) → IsSettledBut raw grouped (is_option_of t s) t → IsSettledBut raw grouped nobody (with_selectedness t s)
  selectedness_kept grouped t s sound =
      let rest = algorithm (is_multiple t s) (last_selected t s) in
      record { tree = rest.tree; marks = rest.marks; values = rest.values; groups = rest.groups; selects = selectedness_settled t s sound.selects }
    where
      start : IsSettledBut raw grouped anybody t
      start = but_selects grouped (is_option_of t s) t sound

      first : (b : Bool) (o : Option Node) → IsSettledBut raw grouped anybody (cond b (option_map_or (λ (n : Node). with_node t n.key now_selected) o t) t)
      first true (Some n) = selects_one grouped (is_key n.key) t start
      first true None = start
      first false o = start

      last : (o : Option Node) → IsSettledBut raw grouped anybody (with_last t s o)
      last (Some n) = unselects grouped anybody (λ m. is_option_of t s m.key && not (is_key n.key m)) t start
      last None = first (display_size t s == 1) (first_enabled t s)

      algorithm : (b : Bool) (o : Option Node) → IsSettledBut raw grouped anybody (cond b t (with_last t s o))
      algorithm true o = start
      algorithm false o = last o

-- ---- values

sanitised_keeps : KeepsElements with_sanitised_value
sanitised_keeps = record {
  key = λ n. cond_both (has_kept_value n) _ n (λ m. m.key ≡ n.key) (λ _. refl) (λ _. refl);
  parent = λ n. cond_both (has_kept_value n) _ n (λ m. m.parent ≡ n.parent) (λ _. refl) (λ _. refl);
  tag = λ n. cond_both (has_kept_value n) _ n (λ m. m.tag ≡ n.tag) (λ _. refl) (λ _. refl);
  attrs = λ n. cond_both (has_kept_value n) _ n (λ m. m.attrs ≡ n.attrs) (λ _. refl) (λ _. refl);
}

-- what was sanitised is, since sanitising twice gives what once gives
is_sanitised : (n : Node) → HasSanitisedValue (with_sanitised_value n)
is_sanitised n = go (has_kept_value n) refl
  where
    go : (b : Bool) → has_kept_value n ≡ b → HasSanitisedValue (cond b (record n { state = record n.state { value = sanitised_in n } }) n)
    go true e kept = sanitised_again (kind_of n) (attr_in n.attrs (codes "min")) (attr_in n.attrs (codes "max")) (attr_in n.attrs (codes "step")) (attr_in n.attrs (codes "value")) n.state.value
    go false e kept = absurd (both_ways _ e kept)

values_settled : (k : Key) (t : Nodes) → All (λ n. same_key k n.key ≡ false → HasSanitisedValue n) t → All (λ n. false ≡ false → HasSanitisedValue n) (with_value t k)
values_settled k t values =
    All-map (λ n. false ≡ false → HasSanitisedValue n) _ t (All-weaker (λ n. same_key k n.key ≡ false → HasSanitisedValue n) (λ n. false ≡ false → HasSanitisedValue (cond (is_key k n) (with_sanitised_value n) n)) (λ n h _. cond_both (is_key k n) (with_sanitised_value n) n HasSanitisedValue (λ _. is_sanitised n) h) t values)

-- the value of one control: it is spared no more
pub value_settled : (grouped chosen : Key → Bool) (t : Nodes) (k : Key) → IsSettledBut (same_key k) grouped chosen t → IsSettledBut nobody grouped chosen (with_value t k)
value_settled grouped chosen t k sound = record {
  tree = tree_where (is_key k) with_sanitised_value sanitised_keeps t sound.tree;
  marks = all_where HasSoundMarks (is_key k) with_sanitised_value (λ n h. cond_both (has_kept_value n) _ n HasSoundMarks (λ _. record { by_user = h.by_user; typed = h.typed }) (λ _. h)) t sound.marks;
  values = values_settled k t sound.values;
  groups = groups_where (is_key k) with_sanitised_value sanitised_keeps t (λ n. cond_both (has_kept_value n) _ n (λ m. is_checked m ≡ true → is_checked n ≡ true) (λ _ h. h) (λ _ h. h)) grouped sound.groups;
  selects = selects_where (is_key k) with_sanitised_value sanitised_keeps t (λ n. cond_both (has_kept_value n) _ n (λ m. is_selected m ≡ true → is_selected n ≡ true) (λ _ h. h) (λ _ h. h)) chosen sound.selects;
}
