-- Resetting a form keeps a tree sound, control by control.
use Rattle.std.proofs.Common.{◌≡◌, ℕ, ◌<◌, Bool, true, false, ◌||◌, cond, List, [], ◌∷◌, length, get_or, refl, sym, ap, ◌∙◌, subst}
use Rattle.std.specs.List.{All, fold}
use Rattle.std.proofs.lemmas.Bool.{and_parts, both_ways}
use Rattle.std.proofs.lemmas.List.Elements.{All-map}
use Rattle.form_tree.specs.declared.node.Tag.TheVariants as tags
use Rattle.form_drafts.proofs.KeyPlaces.{at_place, keys_differ}
use Rattle.form_acts.proofs.Groups.{radio_marking, select_marking}
use Rattle.form_acts.proofs.Marks.{nobody, raised, raised_where}
use Rattle.form_acts.proofs.Sound.{IsSettledBut, all_where, groups_where, one_radio, same_marks, selectedness_kept, selects_where, tree_where, value_settled, values_where}
use Rattle.form_acts.proofs.SoundLaws.{sound_but_nobody, sound_from}
use Rattle.form_drafts.specs.Resetting.{after_reset, reset_input, reset_option, reset_textarea, resettables, with_options_reset, with_reset}
use Rattle.form_acts.specs.Soundness.{HasSanitisedValue, HasSoundMarks, IsSettled}
use Rattle.form_changes.specs.Values.{with_value}
use Rattle.form_page.specs.Settling.{not_selected, off, with_radio, with_selectedness}
use Rattle.form_tree.proofs.Laws.{KeepsElements, is_option_of_map, keeps_where, key_same, passes_found}
use Rattle.form_tree.specs.Elements.{is_among, is_input_tag, is_select, is_textarea, is_textarea_tag, passes, same_key}
use Rattle.form_tree.specs.RadioGroup.{is_checked, share_group}
use Rattle.form_tree.specs.Selects.{is_option_of, is_selected, share_select}
use Rattle.form_tree.specs.Tree.{IsTree, Nodes, is_key, with_node}
use Rattle.form_tree.specs.declared.node.Key.{Key}
use Rattle.form_tree.specs.declared.node.Node.{Node}
use Rattle.form_tree.specs.declared.node.Tag.{Tag}

-- every element is sound
abbrev Sound : Nodes → Type 0
Sound t = IsSettledBut nobody nobody nobody t

-- what holds at the key of a test holds of each node of that key
at_that_key : (test : Node → Bool) (t : Nodes) → IsTree t → (k : Key) → passes test t k ≡ true → (i : ℕ) (d : Node) → i < length t → is_key k (get_or t i d) ≡ true → test (get_or t i d) ≡ true
at_that_key test t tree k holds i d below at =
    sym (passes_found test t (get_or t i d).key (get_or t i d) (at_place t (keys_differ t tree) i d below))
    ∙ subst (λ (j : Key). passes test t j ≡ true) (key_same k (get_or t i d).key at) holds

-- ---- an input

input_keeps : KeepsElements reset_input
input_keeps = record { key = λ n. refl; parent = λ n. refl; tag = λ n. refl; attrs = λ n. refl }

-- a change of one element spares its value
pub value_spared : (f : Node → Node) → ((n : Node) → (f n).key ≡ n.key) → (k : Key) (t : Nodes) → All (λ n. false ≡ false → HasSanitisedValue n) t → All (λ n. same_key k n.key ≡ false → HasSanitisedValue n) (with_node t k f)
value_spared f keys k t values =
    All-map (λ n. same_key k n.key ≡ false → HasSanitisedValue n) (λ n. cond (is_key k n) (f n) n) t (λ i d below. node (get_or t i d) (values i d below refl))
  where
    node : (n : Node) → HasSanitisedValue n → same_key k (cond (is_key k n) (f n) n).key ≡ false → HasSanitisedValue (cond (is_key k n) (f n) n)
    node n h = go (is_key k n) refl
      where
        go : (b : Bool) → is_key k n ≡ b → same_key k (cond b (f n) n).key ≡ false → HasSanitisedValue (cond b (f n) n)
        go true e apart = absurd (both_ways _ (subst (λ (j : Key). same_key k j ≡ false) (keys n) apart) e)
        go false e apart = h

reset_marks : (n : Node) → HasSoundMarks (reset_input n)
reset_marks n = record { by_user = λ e. absurd (cc); typed = λ e. refl }

input_sound : (t : Nodes) (k : Key) → Sound t → Sound (with_value (with_radio (with_node t k reset_input) k) k)
input_sound t k sound = value_settled nobody nobody (with_radio (with_node t k reset_input) k) k (one_radio (same_key k) nobody k [] (with_node t k reset_input) raw)
  where
    raw : IsSettledBut (same_key k) (is_among (k ∷ [])) nobody (with_node t k reset_input)
    raw = record {
      tree = tree_where (is_key k) reset_input input_keeps t sound.tree;
      marks = all_where HasSoundMarks (is_key k) reset_input (λ n _. reset_marks n) t sound.marks;
      values = value_spared reset_input (λ n. refl) k t sound.values;
      groups = raised share_group is_checked off radio_marking reset_input input_keeps t k sound.groups;
      selects = selects_where (is_key k) reset_input input_keeps t (λ n h. h) nobody sound.selects;
    }

-- ---- a textarea

textarea_keeps : KeepsElements reset_textarea
textarea_keeps = record { key = λ n. refl; parent = λ n. refl; tag = λ n. refl; attrs = λ n. refl }

pub no_input : (tag : Tag) → is_textarea_tag tag ≡ true → is_input_tag tag ≡ false
no_input tags.Textarea h = refl
no_input tags.Input h = absurd (cc)
no_input tag h = refl

textarea_sound : (t : Nodes) (k : Key) → passes is_textarea t k ≡ true → Sound t → Sound (with_node t k reset_textarea)
textarea_sound t k is sound = record {
  tree = tree_where (is_key k) reset_textarea textarea_keeps t sound.tree;
  marks = all_where HasSoundMarks (is_key k) reset_textarea (λ n _. record { by_user = λ e. absurd (cc); typed = λ e. refl }) t sound.marks;
  values = All-map (λ n. false ≡ false → HasSanitisedValue n) (λ n. cond (is_key k n) (reset_textarea n) n) t (λ i d below _. value (get_or t i d) (at_that_key is_textarea t sound.tree k is i d below) (sound.values i d below refl));
  groups = groups_where (is_key k) reset_textarea textarea_keeps t (λ n h. h) nobody sound.groups;
  selects = selects_where (is_key k) reset_textarea textarea_keeps t (λ n h. h) nobody sound.selects;
}
  where
    value : (n : Node) → (is_key k n ≡ true → is_textarea n ≡ true) → HasSanitisedValue n → HasSanitisedValue (cond (is_key k n) (reset_textarea n) n)
    value n textarea h = go (is_key k n) refl
      where
        go : (b : Bool) → is_key k n ≡ b → HasSanitisedValue (cond b (reset_textarea n) n)
        go true e = λ kept. absurd (both_ways _ (no_input n.tag (textarea e)) (and_parts (is_input_tag n.tag) _ kept).0)
        go false e = h

-- ---- a select

option_keeps : KeepsElements reset_option
option_keeps = record { key = λ n. refl; parent = λ n. refl; tag = λ n. refl; attrs = λ n. refl }

select_sound : (t : Nodes) (s : Key) → Sound t → Sound (with_selectedness (with_options_reset t s) s)
select_sound t s sound = selectedness_kept nobody nobody (with_options_reset t s) s raw
  where
    raw : IsSettledBut nobody nobody (is_option_of (with_options_reset t s) s) (with_options_reset t s)
    raw = record {
      tree = tree_where (λ n. is_option_of t s n.key) reset_option option_keeps t sound.tree;
      marks = all_where HasSoundMarks (λ n. is_option_of t s n.key) reset_option (same_marks reset_option (λ n. refl) (λ n. refl) (λ n. refl)) t sound.marks;
      values = values_where (λ n. is_option_of t s n.key) reset_option option_keeps t (λ n h. h) nobody sound.values;
      groups = groups_where (λ n. is_option_of t s n.key) reset_option option_keeps t (λ n h. h) nobody sound.groups;
      selects = λ j l shared apart mj ml.
          ap (λ (b : Bool). b || is_option_of (with_options_reset t s) s l) (same j) ∙ ap (λ (b : Bool). is_option_of t s j || b) (same l)
          ∙ raised_where share_select is_selected not_selected select_marking (is_option_of t s) reset_option option_keeps t sound.selects j l shared apart mj ml;
    }
      where
        same : (i : Key) → is_option_of (with_options_reset t s) s i ≡ is_option_of t s i
        same i = is_option_of_map (λ n. cond (is_option_of t s n.key) (reset_option n) n) (keeps_where (λ n. is_option_of t s n.key) reset_option option_keeps) t s i

-- ---- all of a form

one_sound : (t : Nodes) (k : Key) → Sound t → Sound (with_reset t k)
one_sound t k sound = go (passes is_select t k) (passes is_textarea t k) refl
  where
    go : (a b : Bool) → passes is_textarea t k ≡ b → Sound (cond a (with_selectedness (with_options_reset t k) k) (cond b (with_node t k reset_textarea) (with_value (with_radio (with_node t k reset_input) k) k)))
    go true b e = select_sound t k sound
    go false true e = textarea_sound t k e sound
    go false false e = input_sound t k sound

all_sound : (ks : List Key) (t : Nodes) → Sound t → Sound (fold with_reset t ks)
all_sound [] t sound = sound
all_sound (k ∷ ks) t sound = all_sound ks (with_reset t k) (one_sound t k sound)

pub reset_settled : (t : Nodes) (form : Key) → IsSettled t → IsSettled (after_reset t form)
reset_settled t form sound = sound_from _ (all_sound (resettables t form) t (sound_but_nobody t sound))
