-- An attribute that moves controls to other owners: the groups that this makes new have a moved
-- input in them, and nothing else is touched.
use Rattle.std.proofs.Common.{◌≡◌, ℕ, Bool, true, false, not, ◌&&◌, ◌||◌, cond, List, [], ◌∷◌, map, Option, inl, inr, ◌⊎◌, refl, sym, ◌∙◌, subst, codes}
use Rattle.std.specs.List.{filter, list_any}
use Rattle.std.specs.Str.{bytes_eq}
use Rattle.std.proofs.lemmas.Bool.{and_from, and_parts, cond_both, not_from_false, or_left, or_right}
use Rattle.form_acts.proofs.Groups.{radio_marking, select_marking}
use Rattle.form_acts.proofs.Marks.{nobody, regrouped}
use Rattle.form_acts.proofs.Selectedness.{found_any}
use Rattle.form_acts.proofs.Sound.{IsSettledBut, all_where, radios_settled, same_marks, shape_kept}
use Rattle.form_acts.proofs.SoundLaws.{sound_but_nobody, sound_from}
use Rattle.form_acts.specs.Soundness.{HasSanitisedValue, HasSoundMarks, IsSettled}
use Rattle.form_page.specs.Settling.{moved_inputs, not_selected, off, with_radios}
use Rattle.form_tree.proofs.Laws.{attr_image, attr_other, found_key, names_still_differ, owner_same, passes_image, passes_there, same_key-refl, share_select_image}
use Rattle.form_tree.specs.Attributes.{set_attr}
use Rattle.form_tree.specs.Elements.{has_attr, is_among, is_input_tag, passes, same_key, same_owner}
use Rattle.form_tree.specs.Ownership.{owner_of}
use Rattle.form_tree.specs.RadioGroup.{is_checked, is_radio, name_of, same_name, share_group}
use Rattle.form_tree.specs.Selects.{is_multiple, is_selected, share_select}
use Rattle.form_tree.specs.Tree.{IsTree, NamesDiffer, Nodes, attr_in, is_key, with_node}
use Rattle.form_tree.specs.declared.node.Key.{Key}
use Rattle.form_tree.specs.declared.node.Node.{Node}

-- ---- moved inputs

any-map : {X Y : Type 0} (p : Y → Bool) (h : X → Y) (xs : List X) → list_any p (map h xs) ≡ list_any (λ x. p (h x)) xs
any-map p h [] = refl
any-map p h (x ∷ xs) = rw (any-map p h xs) refl

-- an input whose owner differs is among those that moved
moved_listed : (t u : Nodes) (j : Key) → passes is_radio u j ≡ true → same_owner (owner_of t j) (owner_of u j) ≡ false → is_among (moved_inputs t u) j ≡ true
moved_listed t u j radio differs =
    let there = passes_there is_radio u j radio in
    let at : there.0.key ≡ j = found_key u j there.0 there.1 in
    let input : is_input_tag there.0.tag ≡ true = (and_parts (is_input_tag there.0.tag) _ there.2).0 in
    let moved : not (same_owner (owner_of t there.0.key) (owner_of u there.0.key)) ≡ true = subst (λ (i : Key). not (same_owner (owner_of t i) (owner_of u i)) ≡ true) (sym at) (not_from_false _ differs) in
    let itself : same_key j there.0.key ≡ true = subst (λ (i : Key). same_key j i ≡ true) (sym at) (same_key-refl j) in
    any-map (λ i. same_key j i) (λ (n : Node). n.key) (filter (λ n. is_input_tag n.tag && not (same_owner (owner_of t n.key) (owner_of u n.key))) u)
    ∙ found_any (is_key j) (λ n. is_input_tag n.tag && not (same_owner (owner_of t n.key) (owner_of u n.key))) (λ n. same_key j n.key) u there.0 there.1 (and_from _ _ input moved) itself

-- Two that share a group now shared it before, or one of them moved.
moved_group : (t u : Nodes) → ((i : Key) → passes is_radio u i ≡ passes is_radio t i) → ((i : Key) → name_of u i ≡ name_of t i) → (j l : Key) → share_group u j l ≡ true → (share_group t j l ≡ true) ⊎ ((is_among (moved_inputs t u) j || is_among (moved_inputs t u) l) ≡ true)
moved_group t u radios names j l shared = stays (same_owner (owner_of t j) (owner_of u j)) refl (same_owner (owner_of t l) (owner_of u l)) refl
  where
    parts : ((passes is_radio u j && passes is_radio u l) ≡ true) × ((same_key j l || (same_owner (owner_of u j) (owner_of u l) && same_name (name_of u j) (name_of u l))) ≡ true)
    parts = and_parts (passes is_radio u j && passes is_radio u l) _ shared

    both : (passes is_radio u j ≡ true) × (passes is_radio u l ≡ true)
    both = and_parts (passes is_radio u j) (passes is_radio u l) parts.0

    stays : (a : Bool) → same_owner (owner_of t j) (owner_of u j) ≡ a → (b : Bool) → same_owner (owner_of t l) (owner_of u l) ≡ b → (share_group t j l ≡ true) ⊎ ((is_among (moved_inputs t u) j || is_among (moved_inputs t u) l) ≡ true)
    stays true e true f =
        inl (rw (← radios j, ← radios l, ← names j, ← names l, owner_same (owner_of t j) (owner_of u j) e, owner_same (owner_of t l) (owner_of u l) f) shared)
    stays false e b f = inr (or_left _ _ (moved_listed t u j both.0 e))
    stays true e false f = inr (or_right _ _ (moved_listed t u l both.1 f))

-- ---- the change of one attribute

-- an attribute that neither a control's state, value, name and limits nor a select depends on
pub record IsMoving (moving : List ℕ) : Type 0 where
  pub type : bytes_eq moving (codes "type") ≡ false
  pub name : bytes_eq moving (codes "name") ≡ false
  pub min : bytes_eq moving (codes "min") ≡ false
  pub max : bytes_eq moving (codes "max") ≡ false
  pub step : bytes_eq moving (codes "step") ≡ false
  pub value : bytes_eq moving (codes "value") ≡ false
  pub multiple : bytes_eq moving (codes "multiple") ≡ false

module _ (moving : List ℕ) (is : IsMoving moving) (to : Option (List ℕ)) (t : Nodes) (k : Key) where
  -- the change of a node, and the tree after it
  abbrev change : Node → Node
  change n = cond (is_key k n) (set_attr moving to n) n

  abbrev moved : Nodes
  moved = with_node t k (set_attr moving to)

  keys : (n : Node) → (change n).key ≡ n.key
  keys n = cond_both (is_key k n) _ n (λ m. m.key ≡ n.key) (λ _. refl) (λ _. refl)

  parents : (n : Node) → (change n).parent ≡ n.parent
  parents n = cond_both (is_key k n) _ n (λ m. m.parent ≡ n.parent) (λ _. refl) (λ _. refl)

  tags : (n : Node) → (change n).tag ≡ n.tag
  tags n = cond_both (is_key k n) _ n (λ m. m.tag ≡ n.tag) (λ _. refl) (λ _. refl)

  attrs : (other : List ℕ) → bytes_eq moving other ≡ false → (n : Node) → attr_in (change n).attrs other ≡ attr_in n.attrs other
  attrs other apart n = cond_both (is_key k n) _ n (λ m. attr_in m.attrs other ≡ attr_in n.attrs other) (λ _. attr_other moving other to apart n.attrs) (λ _. refl)

  radios : (i : Key) → passes is_radio moved i ≡ passes is_radio t i
  radios i = passes_image change keys t i is_radio (λ n. rw (tags n, attrs (codes "type") is.type n) refl)

  names : (i : Key) → name_of moved i ≡ name_of t i
  names i = rw (attr_image change keys t i (codes "name") (attrs (codes "name") is.name)) refl

  marks : (mark : Node → Bool) → ((n : Node) → mark (set_attr moving to n) ≡ mark n) → (i : Key) → passes mark moved i ≡ true → passes mark t i ≡ true
  marks mark same i = λ h. sym (passes_image change keys t i mark (λ n. cond_both (is_key k n) _ n (λ m. mark m ≡ mark n) (λ _. same n) (λ _. refl))) ∙ h

  multiple : (s : Key) → is_multiple moved s ≡ is_multiple t s
  multiple s = passes_image change keys t s (has_attr (codes "multiple")) (λ n. rw (attrs (codes "multiple") is.multiple n) refl)

  values : (n : Node) → HasSanitisedValue n → HasSanitisedValue (set_attr moving to n)
  values n h =
      rw (attr_other moving (codes "type") to is.type n.attrs, attr_other moving (codes "min") to is.min n.attrs, attr_other moving (codes "max") to is.max n.attrs, attr_other moving (codes "step") to is.step n.attrs, attr_other moving (codes "value") to is.value n.attrs) h

  tree : IsTree t → IsTree moved
  tree h = record {
    shape = rw (shape_kept change keys parents t) h.shape;
    names = all_where (λ n. NamesDiffer n.attrs) (is_key k) (set_attr moving to) (λ n differ. names_still_differ moving to n.attrs differ) t h.names;
  }

  -- the raw change spares the groups of those that moved
  pub raw_moved : IsSettledBut nobody nobody nobody t → IsSettledBut nobody (is_among (moved_inputs t moved)) nobody moved
  raw_moved sound = record {
    tree = tree sound.tree;
    marks = all_where HasSoundMarks (is_key k) (set_attr moving to) (same_marks (set_attr moving to) (λ n. refl) (λ n. refl) (λ n. refl)) t sound.marks;
    values = all_where (λ n. false ≡ false → HasSanitisedValue n) (is_key k) (set_attr moving to) (λ n h e. values n (h e)) t sound.values;
    groups = regrouped share_group is_checked off radio_marking t moved (moved_inputs t moved) (moved_group t moved radios names) (marks is_checked (λ n. refl)) sound.groups;
    selects = regrouped share_select is_selected not_selected select_marking t moved [] (λ j l shared. inl (sym (share_select_image change keys parents tags t multiple j l) ∙ shared)) (marks is_selected (λ n. refl)) sound.selects;
  }

  -- such a change, with the moved radio buttons taken in tree order, keeps a tree sound
  pub moving_settled : IsSettled t → IsSettled (with_radios moved (moved_inputs t moved))
  moving_settled sound = sound_from _ (radios_settled nobody nobody moved (moved_inputs t moved) (raw_moved (sound_but_nobody t sound)))

-- `id` is such an attribute, and `form`
pub id_moves : IsMoving (codes "id")
id_moves = record { type = refl; name = refl; min = refl; max = refl; step = refl; value = refl; multiple = refl }

pub form_moves : IsMoving (codes "form")
form_moves = record { type = refl; name = refl; min = refl; max = refl; step = refl; value = refl; multiple = refl }
