-- Checking and selecting keep a page settled: the change spares what the steps then settle.
use Rattle.std.proofs.Common.{◌≡◌, Bool, true, false, cond, [], ◌∷◌, Option, Some, None, refl}
use Rattle.std.specs.Option.{option_map_or}
use Rattle.form_acts.proofs.Groups.{radio_marking, select_marking}
use Rattle.form_acts.proofs.Marks.{OneMarkedBut, nobody, raised}
use Rattle.form_acts.proofs.Sound.{IsSettledBut, all_where, groups_where, radios_settled, same_marks, selectedness_kept, selection_settled, selects_where, tree_where, values_where}
use Rattle.form_acts.proofs.SoundLaws.{sound_but_nobody, sound_from}
use Rattle.form_acts.specs.Acts.{after_check, after_pick, after_set_selected, is_picked}
use Rattle.form_drafts.specs.Drafts.{with_select_of, with_selected}
use Rattle.form_changes.specs.Changing.{set_checked, set_selected}
use Rattle.form_acts.specs.Soundness.{HasSoundMarks, IsSettled}
use Rattle.form_page.specs.Settling.{not_selected, off, with_selectedness}
use Rattle.form_tree.proofs.Laws.{KeepsElements}
use Rattle.form_tree.specs.Elements.{is_among}
use Rattle.form_tree.specs.RadioGroup.{is_checked, share_group}
use Rattle.form_tree.specs.Selects.{is_option_of, is_selected, select_of, share_select}
use Rattle.form_tree.specs.Tree.{Nodes, is_key, with_node}
use Rattle.form_tree.specs.declared.node.Key.{Key}

-- ---- checkedness

set_checked_keeps : (on : Bool) → KeepsElements (set_checked on)
set_checked_keeps on = record { key = λ n. refl; parent = λ n. refl; tag = λ n. refl; attrs = λ n. refl }

-- the raw change spares the group of the one that was checked, and nobody where it was unchecked
raw_checked : (t : Nodes) (k : Key) (on : Bool) → IsSettledBut nobody nobody nobody t → IsSettledBut nobody (is_among (cond on (k ∷ []) [])) nobody (with_node t k (set_checked on))
raw_checked t k on sound = record {
  tree = tree_where (is_key k) (set_checked on) (set_checked_keeps on) t sound.tree;
  marks = all_where HasSoundMarks (is_key k) (set_checked on) (same_marks (set_checked on) (λ n. refl) (λ n. refl) (λ n. refl)) t sound.marks;
  values = values_where (is_key k) (set_checked on) (set_checked_keeps on) t (λ n h. h) nobody sound.values;
  groups = checks on;
  selects = selects_where (is_key k) (set_checked on) (set_checked_keeps on) t (λ n h. h) nobody sound.selects;
}
  where
    checks : (b : Bool) → OneMarkedBut share_group is_checked (is_among (cond b (k ∷ []) [])) (with_node t k (set_checked b))
    checks true = raised share_group is_checked off radio_marking (set_checked true) (set_checked_keeps true) t k sound.groups
    checks false = groups_where (is_key k) (set_checked false) (set_checked_keeps false) t (λ n h. absurd (cc)) nobody sound.groups

pub check_settled : (t : Nodes) (k : Key) (on : Bool) → IsSettled t → IsSettled (after_check t k on)
check_settled t k on sound =
    sound_from _ (radios_settled nobody nobody (with_node t k (set_checked on)) (cond on (k ∷ []) []) (raw_checked t k on (sound_but_nobody t sound)))

-- ---- selectedness

set_selected_keeps : (on : Bool) → KeepsElements (set_selected on)
set_selected_keeps on = record { key = λ n. refl; parent = λ n. refl; tag = λ n. refl; attrs = λ n. refl }

-- the raw change, and the others of the select where it was selected
raw_selected : (t : Nodes) (k : Key) (on : Bool) → IsSettledBut nobody nobody nobody t → IsSettledBut nobody nobody (is_among (cond on (k ∷ []) [])) (with_node t k (set_selected on))
raw_selected t k on sound = record {
  tree = tree_where (is_key k) (set_selected on) (set_selected_keeps on) t sound.tree;
  marks = all_where HasSoundMarks (is_key k) (set_selected on) (same_marks (set_selected on) (λ n. refl) (λ n. refl) (λ n. refl)) t sound.marks;
  values = values_where (is_key k) (set_selected on) (set_selected_keeps on) t (λ n h. h) nobody sound.values;
  groups = groups_where (is_key k) (set_selected on) (set_selected_keeps on) t (λ n h. h) nobody sound.groups;
  selects = selects on;
}
  where
    selects : (b : Bool) → OneMarkedBut share_select is_selected (is_among (cond b (k ∷ []) [])) (with_node t k (set_selected b))
    selects true = raised share_select is_selected not_selected select_marking (set_selected true) (set_selected_keeps true) t k sound.selects
    selects false = selects_where (is_key k) (set_selected false) (set_selected_keeps false) t (λ n h. absurd (cc)) nobody sound.selects

-- what is sound spares nobody, and so whomever one likes
spare_options : (t : Nodes) (s : Key) → IsSettledBut nobody nobody nobody t → IsSettledBut nobody nobody (is_option_of t s) t
spare_options t s sound = record {
  tree = sound.tree;
  marks = sound.marks;
  values = sound.values;
  groups = sound.groups;
  selects = λ j k shared apart mj mk. absurd (let no : false ≡ true = sound.selects j k shared apart mj mk in (cc));
}

-- the others of the select, where it was selected
pub selected_settled : (u : Nodes) (k : Key) (on : Bool) → IsSettledBut nobody nobody (is_among (cond on (k ∷ []) [])) u → IsSettledBut nobody nobody nobody (with_selected u k on)
selected_settled u k true raw = selection_settled nobody nobody u k raw
selected_settled u k false raw = raw

-- and the algorithm for its select
pub select_of_settled : (v : Nodes) (k : Key) → IsSettledBut nobody nobody nobody v → IsSettledBut nobody nobody nobody (with_select_of v k)
select_of_settled v k sound = go (select_of v k)
  where
    go : (o : Option Key) → IsSettledBut nobody nobody nobody (option_map_or (with_selectedness v) o v)
    go (Some s) = selectedness_kept nobody nobody v s (spare_options v s sound)
    go None = sound

pub set_selected_settled : (t : Nodes) (k : Key) (on : Bool) → IsSettled t → IsSettled (after_set_selected t k on)
set_selected_settled t k on sound =
    sound_from _ (select_of_settled (with_selected (with_node t k (set_selected on)) k on) k (selected_settled (with_node t k (set_selected on)) k on (raw_selected t k on (sound_but_nobody t sound))))

pub pick_settled : (t : Nodes) (k : Key) → IsSettled t → IsSettled (after_pick t k)
pick_settled t k sound = sound_from _ (selected_settled (with_node t k (set_selected (is_picked t k))) k (is_picked t k) (raw_selected t k (is_picked t k) (sound_but_nobody t sound)))
