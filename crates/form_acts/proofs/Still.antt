-- Changes of elements on which no owner, no radio button group and no select depends, and that mark
-- nobody. What an act changes of one element alone is such a change, or one and a mark.
use Rattle.std.proofs.Common.{◌≡◌, ℕ, suc, ◌<◌, Bool, true, false, cond, List, [], ◌∷◌, map, length, get_or, Option, Some, None, is_some, refl, sym, ap, ◌∙◌, subst, codes, arith}
use Rattle.std.specs.List.{All}
use Rattle.std.specs.Option.{option_map, option_map_or}
use Rattle.std.specs.Str.{bytes_eq}
use Rattle.std.proofs.lemmas.Bool.{cond_both}
use Rattle.std.proofs.lemmas.List.Elements.{All-map, All-weaker}
use Rattle.form_tree.specs.declared.node.Key.{Key}
use Rattle.form_tree.specs.declared.node.Node.{Node}
use Rattle.form_tree.specs.Attributes.{set_attr}
use Rattle.form_tree.specs.Elements.{kind_of, passes, same_key}
use Rattle.form_tree.specs.RadioGroup.{is_checked, is_radio, share_group}
use Rattle.form_tree.specs.Selects.{is_selected, share_select}
use Rattle.form_tree.specs.Tree.{IsTree, NamesDiffer, Nodes, at_key, attr_in, is_key, with_node}
use Rattle.form_tree.proofs.Laws.{KeepsElements, KeepsOwners, at_key_image, attr_image, attr_other, key_same, names_still_differ, owner_image, passes_found, passes_image, share_select_image}
use Rattle.form_acts.specs.Soundness.{HasSanitisedValue, HasSoundMarks, IsSettled}
use Rattle.form_drafts.proofs.KeyPlaces.{at_place, keys_differ}
use Rattle.form_acts.proofs.Marks.{nobody}
use Rattle.form_acts.proofs.ResetLaws.{value_spared}
use Rattle.form_acts.proofs.Sound.{IsSettledBut, shape_kept}
use Rattle.form_drafts.proofs.Mild.{changed_where}
use Rattle.form_acts.proofs.SoundLaws.{sound_but_nobody, sound_from}

pub record IsStill (f : Node → Node) : Type 0 where
  pub owners : KeepsOwners f
  pub radio : (n : Node) → is_radio (f n) ≡ is_radio n
  pub name : (n : Node) → attr_in (f n).attrs (codes "name") ≡ attr_in n.attrs (codes "name")
  pub multiple : (n : Node) → attr_in (f n).attrs (codes "multiple") ≡ attr_in n.attrs (codes "multiple")
  pub names : (n : Node) → NamesDiffer n.attrs → NamesDiffer (f n).attrs
  pub marks : (n : Node) → HasSoundMarks n → HasSoundMarks (f n)
  pub checked : (n : Node) → is_checked (f n) ≡ true → is_checked n ≡ true
  pub selected : (n : Node) → is_selected (f n) ≡ true → is_selected n ≡ true

-- ---- which changes are

-- one of the state alone
pub still_of : (f : Node → Node) → KeepsElements f → ((n : Node) → HasSoundMarks n → HasSoundMarks (f n)) → ((n : Node) → is_checked (f n) ≡ true → is_checked n ≡ true) → ((n : Node) → is_selected (f n) ≡ true → is_selected n ≡ true) → IsStill f
still_of f keeps marks checked selected = record {
  owners = record { key = keeps.key; parent = keeps.parent; tag = keeps.tag; form = λ n. rw (keeps.attrs n) refl; id = λ n. rw (keeps.attrs n) refl };
  radio = λ n. rw (keeps.tag n, keeps.attrs n) refl;
  name = λ n. rw (keeps.attrs n) refl;
  multiple = λ n. rw (keeps.attrs n) refl;
  names = λ n h. subst NamesDiffer (sym (keeps.attrs n)) h;
  marks = marks;
  checked = checked;
  selected = selected;
}

-- an attribute that says no state, no group and no select
pub record IsApart (name : List ℕ) : Type 0 where
  pub type : bytes_eq name (codes "type") ≡ false
  pub name_attr : bytes_eq name (codes "name") ≡ false
  pub form : bytes_eq name (codes "form") ≡ false
  pub id : bytes_eq name (codes "id") ≡ false
  pub multiple : bytes_eq name (codes "multiple") ≡ false

pub kind_same : (name : List ℕ) (value : Option (List ℕ)) → bytes_eq name (codes "type") ≡ false → (n : Node) → kind_of (set_attr name value n) ≡ kind_of n
kind_same name value apart n = rw (attr_other name (codes "type") value apart n.attrs) refl

pub still_attr : (name : List ℕ) → IsApart name → (value : Option (List ℕ)) → IsStill (set_attr name value)
still_attr name is value = record {
  owners = record { key = λ n. refl; parent = λ n. refl; tag = λ n. refl; form = λ n. attr_other name (codes "form") value is.form n.attrs; id = λ n. attr_other name (codes "id") value is.id n.attrs };
  radio = λ n. rw (attr_other name (codes "type") value is.type n.attrs) refl;
  name = λ n. attr_other name (codes "name") value is.name_attr n.attrs;
  multiple = λ n. attr_other name (codes "multiple") value is.multiple n.attrs;
  names = λ n differ. names_still_differ name value n.attrs differ;
  marks = λ n h. record { by_user = h.by_user; typed = h.typed };
  checked = λ n h. h;
  selected = λ n h. h;
}

-- one after the other
pub still_then : (f g : Node → Node) → IsStill f → IsStill g → IsStill (λ n. g (f n))
still_then f g first second = record {
  owners = record {
    key = λ n. second.owners.key (f n) ∙ first.owners.key n;
    parent = λ n. second.owners.parent (f n) ∙ first.owners.parent n;
    tag = λ n. second.owners.tag (f n) ∙ first.owners.tag n;
    form = λ n. second.owners.form (f n) ∙ first.owners.form n;
    id = λ n. second.owners.id (f n) ∙ first.owners.id n;
  };
  radio = λ n. second.radio (f n) ∙ first.radio n;
  name = λ n. second.name (f n) ∙ first.name n;
  multiple = λ n. second.multiple (f n) ∙ first.multiple n;
  names = λ n h. second.names (f n) (first.names n h);
  marks = λ n h. second.marks (f n) (first.marks n h);
  checked = λ n h. first.checked n (second.checked (f n) h);
  selected = λ n h. first.selected n (second.selected (f n) h);
}

-- one of two, by a test
pub still_by : (test : Node → Bool) (f g : Node → Node) → IsStill f → IsStill g → IsStill (λ n. cond (test n) (f n) (g n))
still_by test f g first second = record {
  owners = record {
    key = λ n. cond_both (test n) (f n) (g n) (λ m. m.key ≡ n.key) (λ _. first.owners.key n) (λ _. second.owners.key n);
    parent = λ n. cond_both (test n) (f n) (g n) (λ m. m.parent ≡ n.parent) (λ _. first.owners.parent n) (λ _. second.owners.parent n);
    tag = λ n. cond_both (test n) (f n) (g n) (λ m. m.tag ≡ n.tag) (λ _. first.owners.tag n) (λ _. second.owners.tag n);
    form = λ n. cond_both (test n) (f n) (g n) (λ m. attr_in m.attrs (codes "form") ≡ attr_in n.attrs (codes "form")) (λ _. first.owners.form n) (λ _. second.owners.form n);
    id = λ n. cond_both (test n) (f n) (g n) (λ m. attr_in m.attrs (codes "id") ≡ attr_in n.attrs (codes "id")) (λ _. first.owners.id n) (λ _. second.owners.id n);
  };
  radio = λ n. cond_both (test n) (f n) (g n) (λ m. is_radio m ≡ is_radio n) (λ _. first.radio n) (λ _. second.radio n);
  name = λ n. cond_both (test n) (f n) (g n) (λ m. attr_in m.attrs (codes "name") ≡ attr_in n.attrs (codes "name")) (λ _. first.name n) (λ _. second.name n);
  multiple = λ n. cond_both (test n) (f n) (g n) (λ m. attr_in m.attrs (codes "multiple") ≡ attr_in n.attrs (codes "multiple")) (λ _. first.multiple n) (λ _. second.multiple n);
  names = λ n h. cond_both (test n) (f n) (g n) (λ m. NamesDiffer m.attrs) (λ _. first.names n h) (λ _. second.names n h);
  marks = λ n h. cond_both (test n) (f n) (g n) HasSoundMarks (λ _. first.marks n h) (λ _. second.marks n h);
  checked = λ n. cond_both (test n) (f n) (g n) (λ m. is_checked m ≡ true → is_checked n ≡ true) (λ _. first.checked n) (λ _. second.checked n);
  selected = λ n. cond_both (test n) (f n) (g n) (λ m. is_selected m ≡ true → is_selected n ≡ true) (λ _. first.selected n) (λ _. second.selected n);
}

-- none at all
pub still_none : IsStill (λ n. n)
still_none = record {
  owners = record { key = λ n. refl; parent = λ n. refl; tag = λ n. refl; form = λ n. refl; id = λ n. refl };
  radio = λ n. refl;
  name = λ n. refl;
  multiple = λ n. refl;
  names = λ n h. h;
  marks = λ n h. h;
  checked = λ n h. h;
  selected = λ n h. h;
}

-- where a test passes
pub still_where : (test : Node → Bool) (f : Node → Node) → IsStill f → IsStill (λ n. cond (test n) (f n) n)
still_where test f still = still_by test f (λ n. n) still still_none

-- ---- what they keep

module _ (f : Node → Node) (still : IsStill f) (t : Nodes) where
  same_group : (j k : Key) → share_group (map f t) j k ≡ share_group t j k
  same_group j k =
      rw (passes_image f still.owners.key t j is_radio still.radio, passes_image f still.owners.key t k is_radio still.radio, owner_image f still.owners t j, owner_image f still.owners t k, attr_image f still.owners.key t j (codes "name") still.name, attr_image f still.owners.key t k (codes "name") still.name) refl

  same_select : (j k : Key) → share_select (map f t) j k ≡ share_select t j k
  same_select j k =
      share_select_image f still.owners.key still.owners.parent still.owners.tag t
      (λ s. passes_image f still.owners.key t s (λ n. is_some (attr_in n.attrs (codes "multiple"))) (λ n. rw (still.multiple n) refl)) j k

  -- who bears a mark bore it
  was : (mark : Node → Bool) → ((n : Node) → mark (f n) ≡ true → mark n ≡ true) → (i : Key) → passes mark (map f t) i ≡ true → passes mark t i ≡ true
  was mark less i holds = go (at_key t i) refl (sym (ap (λ (o : Option Node). option_map_or mark o false) (at_key_image f still.owners.key t i)) ∙ holds)
    where
      go : (o : Option Node) → at_key t i ≡ o → option_map_or mark (option_map f o) false ≡ true → passes mark t i ≡ true
      go None found h = absurd (cc)
      go (Some n) found h = passes_found mark t i n found ∙ less n h

  -- whoever was spared still is, but for values
  pub still_raw : (raw old grouped chosen : Key → Bool) → All (λ n. raw n.key ≡ false → HasSanitisedValue n) (map f t) → IsSettledBut old grouped chosen t → IsSettledBut raw grouped chosen (map f t)
  still_raw raw old grouped chosen values sound = record {
    tree = record {
      shape = rw (shape_kept f still.owners.key still.owners.parent t) sound.tree.shape;
      names = All-map (λ n. NamesDiffer n.attrs) f t (All-weaker (λ n. NamesDiffer n.attrs) (λ n. NamesDiffer (f n).attrs) still.names t sound.tree.names);
    };
    marks = All-map HasSoundMarks f t (All-weaker HasSoundMarks (λ n. HasSoundMarks (f n)) still.marks t sound.marks);
    values = values;
    groups = λ j k shared differ mj mk. sound.groups j k (sym (same_group j k) ∙ shared) differ (was is_checked still.checked j mj) (was is_checked still.checked k mk);
    selects = λ j k shared differ mj mk. sound.selects j k (sym (same_select j k) ∙ shared) differ (was is_selected still.selected j mj) (was is_selected still.selected k mk);
  }

-- of one element, whose value is spared
pub still_one : (f : Node → Node) → IsStill f → (t : Nodes) (k : Key) → IsSettledBut nobody nobody nobody t → IsSettledBut (same_key k) nobody nobody (with_node t k f)
still_one f still t k sound = still_raw (λ n. cond (is_key k n) (f n) n) (still_where (is_key k) f still) t (same_key k) nobody nobody nobody (value_spared f still.owners.key k t sound.values) sound

-- where sanitised values stay so, nobody is spared
pub still_all : (f : Node → Node) → IsStill f → ((n : Node) → HasSanitisedValue n → HasSanitisedValue (f n)) → (test : Node → Bool) (t : Nodes) → IsSettledBut nobody nobody nobody t → IsSettledBut nobody nobody nobody (changed_where test f t)
still_all f still values test t sound =
    still_raw (λ n. cond (test n) (f n) n) (still_where test f still) t nobody nobody nobody nobody
    (All-map (λ n. false ≡ false → HasSanitisedValue n) (λ n. cond (test n) (f n) n) t (All-weaker (λ n. false ≡ false → HasSanitisedValue n) (λ n. false ≡ false → HasSanitisedValue (cond (test n) (f n) n)) (λ n h e. cond_both (test n) (f n) n HasSanitisedValue (λ _. values n (h e)) (λ _. h e)) t sound.values))
    sound

pub still_settled : (f : Node → Node) → IsStill f → ((n : Node) → HasSanitisedValue n → HasSanitisedValue (f n)) → (t : Nodes) (k : Key) → IsSettled t → IsSettled (with_node t k f)
still_settled f still values t k sound = sound_from _ (still_all f still values (is_key k) t (sound_but_nobody t sound))

-- ---- what may be asked of the element that is changed

pub map_same : (f g : Node → Node) (t : Nodes) → All (λ n. f n ≡ g n) t → map f t ≡ map g t
map_same f g [] all = refl
map_same f g (n ∷ t) all =
    let here : f n ≡ g n = all 0 n (omega arith) in
    rw (here, map_same f g t (λ i d below. all (suc i) d (omega arith))) refl

-- what a test says of the key it says of each node of that key
pub at_key_is : (test : Node → Bool) (b : Bool) (t : Nodes) → IsTree t → (k : Key) → passes test t k ≡ b → (i : ℕ) (d : Node) → i < length t → is_key k (get_or t i d) ≡ true → test (get_or t i d) ≡ b
at_key_is test b t tree k holds i d below at =
    sym (passes_found test t (get_or t i d).key (get_or t i d) (at_place t (keys_differ t tree) i d below))
    ∙ subst (λ (j : Key). passes test t j ≡ b) (key_same k (get_or t i d).key at) holds

-- two changes that agree where a test says what it says of the key
pub agreeing : (test : Node → Bool) (b : Bool) (f g : Node → Node) → ((n : Node) → test n ≡ b → f n ≡ g n) → (t : Nodes) → IsTree t → (k : Key) → passes test t k ≡ b → with_node t k f ≡ with_node t k g
agreeing test b f g same t tree k holds =
    map_same (λ n. cond (is_key k n) (f n) n) (λ n. cond (is_key k n) (g n) n) t (λ i d below. go (get_or t i d) (at_key_is test b t tree k holds i d below))
  where
    go : (n : Node) → (is_key k n ≡ true → test n ≡ b) → cond (is_key k n) (f n) n ≡ cond (is_key k n) (g n) n
    go n h = both (is_key k n) refl
      where
        both : (x : Bool) → is_key k n ≡ x → cond x (f n) n ≡ cond x (g n) n
        both true e = same n (h e)
        both false e = refl

-- one change of an element and then another are one
pub changed_twice : (f g : Node → Node) → ((n : Node) → (f n).key ≡ n.key) → (t : Nodes) (k : Key) → with_node (with_node t k f) k g ≡ with_node t k (λ n. g (f n))
changed_twice f g keys [] k = refl
changed_twice f g keys (n ∷ t) k = rw (changed_twice f g keys t k) (ap (λ (m : Node). m ∷ with_node t k (λ n. g (f n))) (go (is_key k n) refl))
  where
    go : (b : Bool) → is_key k n ≡ b → cond (is_key k (cond b (f n) n)) (g (cond b (f n) n)) (cond b (f n) n) ≡ cond b (g (f n)) n
    go true e = let still : is_key k (f n) ≡ true = ap (λ (j : Key). same_key k j) (keys n) ∙ e in rw still refl
    go false e = rw e refl

-- ---- values

-- an attribute that says neither the state nor the limits keeps values sanitised
pub record IsNoLimit (name : List ℕ) : Type 0 where
  pub type : bytes_eq name (codes "type") ≡ false
  pub min : bytes_eq name (codes "min") ≡ false
  pub max : bytes_eq name (codes "max") ≡ false
  pub step : bytes_eq name (codes "step") ≡ false
  pub value : bytes_eq name (codes "value") ≡ false

pub still_sanitised : (name : List ℕ) → IsNoLimit name → (to : Option (List ℕ)) (n : Node) → HasSanitisedValue n → HasSanitisedValue (set_attr name to n)
still_sanitised name is to n h =
    rw (attr_other name (codes "type") to is.type n.attrs, attr_other name (codes "min") to is.min n.attrs, attr_other name (codes "max") to is.max n.attrs, attr_other name (codes "step") to is.step n.attrs, attr_other name (codes "value") to is.value n.attrs) h
