-- A change of `multiple` or `size` keeps a tree sound: the select's own options alone are spared.
use Rattle.std.proofs.Common.{◌≡◌, ℕ, Bool, true, false, ◌||◌, cond, List, [], Option, Some, inl, refl, sym, ap, ◌∙◌, codes}
use Rattle.std.specs.Str.{bytes_eq}
use Rattle.std.proofs.lemmas.Bool.{both_ways, cond_both, or_left}
use Rattle.form_acts.proofs.Groups.{radio_marking}
use Rattle.form_acts.proofs.Marks.{OneMarkedBut, nobody, regrouped}
use Rattle.form_acts.proofs.OneElement.{there_still}
use Rattle.form_acts.proofs.Selectedness.{in_option}
use Rattle.form_acts.proofs.Sound.{IsSettledBut, all_where, same_marks, selectedness_kept, shape_kept}
use Rattle.form_acts.proofs.SoundLaws.{sound_but_nobody, sound_from}
use Rattle.form_acts.specs.Soundness.{HasSanitisedValue, HasSoundMarks, IsSettled}
use Rattle.form_page.specs.Settling.{off, with_selectedness}
use Rattle.form_tree.proofs.Laws.{attr_other, key_same, names_still_differ, passes_image, select_of_image, select_shared, share_group_image, shares_select}
use Rattle.form_tree.specs.Attributes.{set_attr}
use Rattle.form_tree.specs.Elements.{passes, same_key}
use Rattle.form_tree.specs.RadioGroup.{is_checked, share_group}
use Rattle.form_tree.specs.Selects.{is_multiple, is_option_of, is_selected, select_of, share_select}
use Rattle.form_tree.specs.Tree.{NamesDiffer, Nodes, attr_in, is_key, with_node}
use Rattle.form_tree.specs.declared.node.Key.{Key}
use Rattle.form_tree.specs.declared.node.Node.{Node}

-- an attribute on which no owner, group or value depends
pub record IsOfSelects (changed : List ℕ) : Type 0 where
  pub type : bytes_eq changed (codes "type") ≡ false
  pub name : bytes_eq changed (codes "name") ≡ false
  pub form : bytes_eq changed (codes "form") ≡ false
  pub id : bytes_eq changed (codes "id") ≡ false
  pub min : bytes_eq changed (codes "min") ≡ false
  pub max : bytes_eq changed (codes "max") ≡ false
  pub step : bytes_eq changed (codes "step") ≡ false
  pub value : bytes_eq changed (codes "value") ≡ false

module _ (changed : List ℕ) (is : IsOfSelects changed) (to : Option (List ℕ)) (t : Nodes) (s : Key) where
  abbrev after : Nodes
  after = with_node t s (set_attr changed to)

  everywhere : (P : Node → Node → Type 0) → ((n : Node) → P (set_attr changed to n) n) → ((n : Node) → P n n) → (n : Node) → P (cond (is_key s n) (set_attr changed to n) n) n
  everywhere P made kept n = cond_both (is_key s n) _ n (λ m. P m n) (λ _. made n) (λ _. kept n)

  keys : (n : Node) → (cond (is_key s n) (set_attr changed to n) n).key ≡ n.key
  keys n = everywhere (λ m n. m.key ≡ n.key) (λ n. refl) (λ n. refl) n

  parents : (n : Node) → (cond (is_key s n) (set_attr changed to n) n).parent ≡ n.parent
  parents n = everywhere (λ m n. m.parent ≡ n.parent) (λ n. refl) (λ n. refl) n

  tags : (n : Node) → (cond (is_key s n) (set_attr changed to n) n).tag ≡ n.tag
  tags n = everywhere (λ m n. m.tag ≡ n.tag) (λ n. refl) (λ n. refl) n

  attrs : (other : List ℕ) → bytes_eq changed other ≡ false → (n : Node) → attr_in (cond (is_key s n) (set_attr changed to n) n).attrs other ≡ attr_in n.attrs other
  attrs other apart n = everywhere (λ m n. attr_in m.attrs other ≡ attr_in n.attrs other) (λ n. attr_other changed other to apart n.attrs) (λ n. refl) n

  same_group : (j l : Key) → share_group after j l ≡ share_group t j l
  same_group j l =
      share_group_image (λ n. cond (is_key s n) (set_attr changed to n) n) (record { key = keys; parent = parents; tag = tags; form = attrs (codes "form") is.form; id = attrs (codes "id") is.id })
      (attrs (codes "type") is.type) (attrs (codes "name") is.name) t j l

  same_select : (i : Key) → select_of after i ≡ select_of t i
  same_select i = select_of_image (λ n. cond (is_key s n) (set_attr changed to n) n) keys parents tags t i

  values : (n : Node) → HasSanitisedValue n → HasSanitisedValue (set_attr changed to n)
  values n h =
      rw (attr_other changed (codes "type") to is.type n.attrs, attr_other changed (codes "min") to is.min n.attrs, attr_other changed (codes "max") to is.max n.attrs, attr_other changed (codes "step") to is.step n.attrs, attr_other changed (codes "value") to is.value n.attrs) h

  marked : (mark : Node → Bool) → ((n : Node) → mark (set_attr changed to n) ≡ mark n) → (i : Key) → passes mark after i ≡ true → passes mark t i ≡ true
  marked mark same i m = sym (passes_image (λ n. cond (is_key s n) (set_attr changed to n) n) keys t i mark (λ n. everywhere (λ m n. mark m ≡ mark n) same (λ n. refl) n)) ∙ m

  -- two that share a select now shared it before, but for the options of this one
  selects : OneMarkedBut share_select is_selected nobody t → OneMarkedBut share_select is_selected (is_option_of after s) after
  selects one j l shared apart mj ml =
      let sh = select_shared after j l shared in
      go sh.0 sh.1 sh.2 sh.3 (same_key sh.0 s) refl
    where
      go : (r : Key) → select_of after j ≡ Some r → select_of after l ≡ Some r → is_multiple after r ≡ false → (b : Bool) → same_key r s ≡ b → (is_option_of after s j || is_option_of after s l) ≡ true
      go r ej el single true e = or_left _ _ (in_option after s j (ej ∙ ap (λ (i : Key). Some i) (key_same r s e)))
      go r ej el single false e =
          let still : is_multiple t r ≡ false = rw (there_still (set_attr changed to) (λ n. refl) t s r e) at single in
          let before = shares_select t j l r (sym (same_select j) ∙ ej) (sym (same_select l) ∙ el) still in
          absurd (both_ways false refl (one j l before apart (marked is_selected (λ n. refl) j mj) (marked is_selected (λ n. refl) l ml)))

  raw_changed : IsSettledBut nobody nobody nobody t → IsSettledBut nobody nobody (is_option_of after s) after
  raw_changed sound = record {
    tree = record {
      shape = rw (shape_kept (λ n. cond (is_key s n) (set_attr changed to n) n) keys parents t) sound.tree.shape;
      names = all_where (λ n. NamesDiffer n.attrs) (is_key s) (set_attr changed to) (λ n differ. names_still_differ changed to n.attrs differ) t sound.tree.names;
    };
    marks = all_where HasSoundMarks (is_key s) (set_attr changed to) (same_marks (set_attr changed to) (λ n. refl) (λ n. refl) (λ n. refl)) t sound.marks;
    values = all_where (λ n. false ≡ false → HasSanitisedValue n) (is_key s) (set_attr changed to) (λ n h e. values n (h e)) t sound.values;
    groups = regrouped share_group is_checked off radio_marking t after [] (λ j l shared. inl (sym (same_group j l) ∙ shared)) (marked is_checked (λ n. refl)) sound.groups;
    selects = selects sound.selects;
  }

  pub size_settled : IsSettled t → IsSettled (with_selectedness after s)
  size_settled sound = sound_from _ (selectedness_kept nobody nobody after s (raw_changed (sound_but_nobody t sound)))

pub multiple_is : IsOfSelects (codes "multiple")
multiple_is = record { type = refl; name = refl; form = refl; id = refl; min = refl; max = refl; step = refl; value = refl }

pub size_is : IsOfSelects (codes "size")
size_is = record { type = refl; name = refl; form = refl; id = refl; min = refl; max = refl; step = refl; value = refl }
