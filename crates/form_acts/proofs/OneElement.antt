-- Whatever a change makes of one element's attributes and state, where no owner and no select
-- changes: its value and its radio button group alone are spared.
use Rattle.std.proofs.Common.{◌≡◌, Bool, true, false, ◌||◌, cond, [], ◌∷◌, Option, Some, None, inl, refl, sym, ap, ◌∙◌, subst, codes}
use Rattle.std.specs.Option.{option_map}
use Rattle.std.proofs.lemmas.Bool.{both_ways, cond_both}
use Rattle.form_acts.proofs.Groups.{select_marking}
use Rattle.form_acts.proofs.Marks.{OneMarkedBut, nobody, regrouped}
use Rattle.form_acts.proofs.ResetLaws.{value_spared}
use Rattle.form_acts.proofs.Sound.{IsSettledBut, all_where, shape_kept}
use Rattle.form_acts.specs.Soundness.{HasSoundMarks}
use Rattle.form_page.specs.Settling.{not_selected}
use Rattle.form_tree.proofs.Laws.{KeepsOwners, at_key_image, found_key, owner_image, passes_image, same_key-sym, share_select_image}
use Rattle.form_tree.specs.Elements.{has_attr, is_among, same_key}
use Rattle.form_tree.specs.Ownership.{owner_of}
use Rattle.form_tree.specs.RadioGroup.{is_checked, share_group}
use Rattle.form_tree.specs.Selects.{is_multiple, is_selected, share_select}
use Rattle.form_tree.specs.Tree.{NamesDiffer, Nodes, at_key, attr_in, is_key, with_node}
use Rattle.form_tree.specs.declared.node.Key.{Key}
use Rattle.form_tree.specs.declared.node.Node.{Node}

-- what such a change keeps
pub record IsOfOne (f : Node → Node) : Type 0 where
  pub owners : KeepsOwners f
  pub multiple : (n : Node) → attr_in (f n).attrs (codes "multiple") ≡ attr_in n.attrs (codes "multiple")
  pub names : (n : Node) → NamesDiffer n.attrs → NamesDiffer (f n).attrs
  pub marks : (n : Node) → HasSoundMarks n → HasSoundMarks (f n)
  pub selected : (n : Node) → is_selected (f n) ≡ is_selected n

-- each element of another key stays as it is
pub there_still : (f : Node → Node) → ((n : Node) → (f n).key ≡ n.key) → (t : Nodes) (k i : Key) → same_key i k ≡ false → at_key (with_node t k f) i ≡ at_key t i
there_still f keys t k i apart =
    at_key_image (λ n. cond (is_key k n) (f n) n) (λ n. cond_both (is_key k n) (f n) n (λ m. m.key ≡ n.key) (λ _. keys n) (λ _. refl)) t i ∙ go (at_key t i) refl
  where
    go : (o : Option Node) → at_key t i ≡ o → option_map (λ n. cond (is_key k n) (f n) n) o ≡ o
    go None e = refl
    go (Some n) e =
        let other : is_key k n ≡ false = same_key-sym k n.key ∙ subst (λ (x : Key). same_key x k ≡ false) (sym (found_key t i n e)) apart in
        ap (λ (b : Bool). Some (cond b (f n) n)) other

module _ (f : Node → Node) (is : IsOfOne f) (t : Nodes) (k : Key) where
  abbrev after : Nodes
  after = with_node t k f

  abbrev change : Node → Node
  change n = cond (is_key k n) (f n) n

  -- what holds of the change where it is made holds of it everywhere
  everywhere : (P : Node → Node → Type 0) → ((n : Node) → P (f n) n) → ((n : Node) → P n n) → (n : Node) → P (change n) n
  everywhere P made kept n = cond_both (is_key k n) (f n) n (λ m. P m n) (λ _. made n) (λ _. kept n)

  keys : (n : Node) → (change n).key ≡ n.key
  keys n = everywhere (λ m n. m.key ≡ n.key) is.owners.key (λ n. refl) n

  parents : (n : Node) → (change n).parent ≡ n.parent
  parents n = everywhere (λ m n. m.parent ≡ n.parent) is.owners.parent (λ n. refl) n

  tags : (n : Node) → (change n).tag ≡ n.tag
  tags n = everywhere (λ m n. m.tag ≡ n.tag) is.owners.tag (λ n. refl) n

  owners : (i : Key) → owner_of after i ≡ owner_of t i
  owners i = owner_image (λ n. cond (is_key k n) (f n) n) (record {
    key = keys;
    parent = parents;
    tag = tags;
    form = λ n. everywhere (λ m n. attr_in m.attrs (codes "form") ≡ attr_in n.attrs (codes "form")) is.owners.form (λ n. refl) n;
    id = λ n. everywhere (λ m n. attr_in m.attrs (codes "id") ≡ attr_in n.attrs (codes "id")) is.owners.id (λ n. refl) n;
  }) t i

  multiple : (s : Key) → is_multiple after s ≡ is_multiple t s
  multiple s = passes_image (λ n. cond (is_key k n) (f n) n) keys t s (has_attr (codes "multiple")) (λ n. rw (everywhere (λ m n. attr_in m.attrs (codes "multiple") ≡ attr_in n.attrs (codes "multiple")) is.multiple (λ n. refl) n) refl)

  groups : OneMarkedBut share_group is_checked nobody t → OneMarkedBut share_group is_checked (is_among (k ∷ [])) after
  groups one j l shared apart mj ml = cases (same_key j k) refl (same_key l k) refl
    where
      cases : (a : Bool) → same_key j k ≡ a → (b : Bool) → same_key l k ≡ b → ((same_key j k || false) || (same_key l k || false)) ≡ true
      cases true e b e' = rw e refl
      cases false e true e' = rw (e, e') refl
      cases false e false e' =
          let at_j = there_still f is.owners.key t k j e in
          let at_l = there_still f is.owners.key t k l e' in
          let before : share_group t j l ≡ true = rw (owners j, owners l, at_j, at_l) at shared in
          absurd (both_ways false refl (one j l before apart (rw at_j at mj) (rw at_l at ml)))

  selects : OneMarkedBut share_select is_selected nobody t → OneMarkedBut share_select is_selected nobody after
  selects one =
      regrouped share_select is_selected not_selected select_marking t after []
      (λ j l shared. inl (sym (share_select_image (λ n. cond (is_key k n) (f n) n) keys parents tags t multiple j l) ∙ shared))
      (λ i m. sym (passes_image (λ n. cond (is_key k n) (f n) n) keys t i is_selected (λ n. everywhere (λ m n. is_selected m ≡ is_selected n) is.selected (λ n. refl) n)) ∙ m) one

  pub one_changed : IsSettledBut nobody nobody nobody t → IsSettledBut (same_key k) (is_among (k ∷ [])) nobody after
  one_changed sound = record {
    tree = record {
      shape = rw (shape_kept (λ n. cond (is_key k n) (f n) n) keys parents t) sound.tree.shape;
      names = all_where (λ n. NamesDiffer n.attrs) (is_key k) f is.names t sound.tree.names;
    };
    marks = all_where HasSoundMarks (is_key k) f is.marks t sound.marks;
    values = value_spared f is.owners.key k t sound.values;
    groups = groups sound.groups;
    selects = selects sound.selects;
  }
