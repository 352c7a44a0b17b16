-- Soundness, counted group by group, is soundness but for nobody.
use Rattle.std.proofs.Common.{◌≡◌, false, refl}
use Rattle.std.proofs.lemmas.List.Elements.{All-weaker}
use Rattle.form_acts.proofs.Counts.{counted, not_both}
use Rattle.form_acts.proofs.Marks.{nobody}
use Rattle.form_acts.proofs.Selectedness.{in_option, option_in}
use Rattle.form_acts.proofs.Sound.{IsSettledBut}
use Rattle.form_acts.specs.Soundness.{HasSanitisedValue, IsSettled}
use Rattle.form_tree.proofs.Laws.{group_refl, group_together, select_shared, shares_select}
use Rattle.form_tree.specs.RadioGroup.{is_checked, share_group}
use Rattle.form_tree.specs.Selects.{is_option_of, is_selected, share_select}
use Rattle.form_tree.specs.Tree.{Nodes}

pub sound_but_nobody : (t : Nodes) → IsSettled t → IsSettledBut nobody nobody nobody t
sound_but_nobody t sound = record {
  tree = sound.tree;
  marks = sound.marks;
  values = All-weaker HasSanitisedValue (λ n. false ≡ false → HasSanitisedValue n) (λ n h _. h) t sound.values;
  groups = λ j k shared apart mj mk. absurd (not_both is_checked t (share_group t j) (sound.groups j) j k (group_refl t j k shared) shared apart mj mk);
  selects = λ j k shared apart mj mk.
      let sh = select_shared t j k shared in
      absurd (not_both is_selected t (is_option_of t sh.0) (sound.selects sh.0 sh.3) j k (in_option t sh.0 j sh.1) (in_option t sh.0 k sh.2) apart mj mk);
}

pub sound_from : (t : Nodes) → IsSettledBut nobody nobody nobody t → IsSettled t
sound_from t sound = record {
  tree = sound.tree;
  marks = sound.marks;
  values = All-weaker (λ n. false ≡ false → HasSanitisedValue n) HasSanitisedValue (λ n h. h refl) t sound.values;
  groups = λ a. counted share_group is_checked t (share_group t a) sound.tree (group_together t a) sound.groups;
  selects = λ s single. counted share_select is_selected t (is_option_of t s) sound.tree (λ j k oj ok. shares_select t j k s (option_in t s j oj) (option_in t s k ok) single) sound.selects;
}
