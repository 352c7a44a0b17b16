-- A change of an input's type keeps a page settled.
use Rattle.std.proofs.Common.{◌≡◌, ℕ, Bool, true, false, not, ◌&&◌, ◌||◌, cond, List, [], Option, Some, refl, sym, ap, ◌∙◌, subst, codes}
use Rattle.std.specs.Str.{bytes_eq}
use Rattle.std.proofs.lemmas.Bool.{and_from, and_parts, cond_both}
use denote.Enum.Bare.{differs_false}
use Rattle.form_types.specs.declared.kind.Mode.TheVariants as modes
use Rattle.form_acts.proofs.Marks.{nobody}
use Rattle.form_acts.proofs.OneElement.{IsOfOne, one_changed}
use Rattle.form_acts.proofs.Sound.{one_radio, value_settled}
use Rattle.form_acts.proofs.Still.{IsStill, agreeing, still_settled}
use Rattle.form_acts.proofs.SoundLaws.{sound_but_nobody, sound_from}
use Rattle.form_changes.specs.declared.role.Role.TheVariants as roles
use Rattle.form_changes.specs.Changing.{changed_attr, changes_state, forgotten, is_file_kind, same_kind, value_from_attr, value_to_attr, with_kind, with_mode, with_value_text}
use Rattle.form_changes.specs.Values.{has_kept_value, is_value_mode, with_value}
use Rattle.form_acts.specs.Soundness.{HasSanitisedValue, HasSoundMarks, IsSettled}
use Rattle.form_acts.specs.Acts.{after_change}
use Rattle.form_page.specs.Settling.{with_radio}
use Rattle.form_tree.proofs.Laws.{KeepsOwners, attr_other, names_still_differ}
use Rattle.form_tree.specs.Attributes.{set_attr}
use Rattle.form_tree.specs.Elements.{is_empty_text, is_input, kind_of, passes, same_key}
use Rattle.form_tree.specs.RadioGroup.{is_checked, is_radio, is_radio_kind}
use Rattle.form_tree.specs.Selects.{is_selected}
use Rattle.form_tree.specs.Tree.{NamesDiffer, Nodes, attr_in, with_node}
use Rattle.form_tree.specs.declared.node.Key.{Key}
use Rattle.form_tree.specs.declared.node.Node.{Node}
use Rattle.form_types.specs.TypeTable.{mode_of}
use Rattle.form_types.specs.contracts.kind.Kind.{the_type as Kinds}
use Rattle.form_types.specs.declared.kind.Kind.{Kind}
use Rattle.form_types.specs.declared.kind.Mode.{Mode}

-- what a type change keeps of a node on its way; the typed text is seen to at its end
record IsLike (n m : Node) : Type 0 where
  key : m.key ≡ n.key
  parent : m.parent ≡ n.parent
  tag : m.tag ≡ n.tag
  form : attr_in m.attrs (codes "form") ≡ attr_in n.attrs (codes "form")
  id : attr_in m.attrs (codes "id") ≡ attr_in n.attrs (codes "id")
  multiple : attr_in m.attrs (codes "multiple") ≡ attr_in n.attrs (codes "multiple")
  names : NamesDiffer n.attrs → NamesDiffer m.attrs
  by_user : HasSoundMarks n → m.state.by_user ≡ true → m.state.dirty ≡ true
  selected : is_selected m ≡ is_selected n

-- an attribute that no owner and no select depends on
like_attr : (name : List ℕ) (value : Option (List ℕ)) → bytes_eq name (codes "form") ≡ false → bytes_eq name (codes "id") ≡ false → bytes_eq name (codes "multiple") ≡ false → (n m : Node) → IsLike n m → IsLike n (set_attr name value m)
like_attr name value form id multiple n m like = record {
  key = like.key;
  parent = like.parent;
  tag = like.tag;
  form = attr_other name (codes "form") value form m.attrs ∙ like.form;
  id = attr_other name (codes "id") value id m.attrs ∙ like.id;
  multiple = attr_other name (codes "multiple") value multiple m.attrs ∙ like.multiple;
  names = λ h. names_still_differ name value m.attrs (like.names h);
  by_user = like.by_user;
  selected = like.selected;
}

like_mode : (n m : Node) → IsLike n m → (from to : Mode) → IsLike n (with_mode from to m)
like_mode n m like from to = go from to
  where
    to_attr : IsLike n (value_to_attr m)
    to_attr = cond_both (is_empty_text m.state.value) m (set_attr (codes "value") (Some m.state.value) m) (IsLike n) (λ _. like) (λ _. like_attr (codes "value") (Some m.state.value) refl refl refl n m like)

    from_attr : IsLike n (value_from_attr m)
    from_attr = record { key = like.key; parent = like.parent; tag = like.tag; form = like.form; id = like.id; multiple = like.multiple; names = like.names; by_user = λ h e. absurd (cc); selected = like.selected }

    emptied : IsLike n (with_value_text [] m)
    emptied = record { key = like.key; parent = like.parent; tag = like.tag; form = like.form; id = like.id; multiple = like.multiple; names = like.names; by_user = like.by_user; selected = like.selected }

    go : (from to : Mode) → IsLike n (with_mode from to m)
    go modes.Value modes.Value = like
    go modes.Value modes.Default = to_attr
    go modes.Value modes.DefaultOn = to_attr
    go modes.Value modes.Filename = emptied
    go modes.Default modes.Value = from_attr
    go modes.DefaultOn modes.Value = from_attr
    go modes.Filename modes.Value = from_attr
    go modes.Filename modes.Filename = like
    go modes.Default modes.Filename = emptied
    go modes.DefaultOn modes.Filename = emptied
    go modes.Default modes.Default = like
    go modes.Default modes.DefaultOn = like
    go modes.DefaultOn modes.Default = like
    go modes.DefaultOn modes.DefaultOn = like
    go modes.Filename modes.Default = like
    go modes.Filename modes.DefaultOn = like

like_forgotten : (files : Bool) (n m : Node) → IsLike n m → IsLike n (forgotten files m)
like_forgotten files n m like = record { key = like.key; parent = like.parent; tag = like.tag; form = like.form; id = like.id; multiple = like.multiple; names = like.names; by_user = like.by_user; selected = like.selected }

like_itself : (n : Node) → IsLike n n
like_itself n = record { key = refl; parent = refl; tag = refl; form = refl; id = refl; multiple = refl; names = λ h. h; by_user = λ h. h.by_user; selected = refl }

-- no owner depends on the state of an input
pub kind_owners : (from to : Kind) → KeepsOwners (with_kind from to)
kind_owners from to = record {
  key = λ n. (like n).key;
  parent = λ n. (like n).parent;
  tag = λ n. (like n).tag;
  form = λ n. (like n).form;
  id = λ n. (like n).id;
}
  where
    like : (n : Node) → IsLike n (with_kind from to n)
    like n = like_forgotten (is_file_kind from || is_file_kind to) n (with_mode (mode_of from) (mode_of to) n) (like_mode n n (like_itself n) (mode_of from) (mode_of to))

-- ---- the change of the `type` attribute

module _ (type : Option (List ℕ)) where
  -- the node with the attribute alone changed, and with what follows where its state changes
  abbrev retyped : Node → Node
  retyped n = set_attr (codes "type") type n

  abbrev moved_on : Node → Node
  moved_on n = with_kind (kind_of n) (kind_of (retyped n)) (retyped n)

  typed_attr : (n : Node) → IsLike n (retyped n)
  typed_attr n = like_attr (codes "type") type refl refl refl n n (like_itself n)

  like : (n : Node) → IsLike n (changed_attr roles.Type (codes "type") type n)
  like n =
      cond_both (changes_state (codes "type") type n) (moved_on n) (retyped n) (IsLike n)
      (λ _. like_forgotten _ n _ (like_mode n (retyped n) (typed_attr n) (mode_of (kind_of n)) (mode_of (kind_of (retyped n))))) (λ _. typed_attr n)

  marks : (n : Node) → HasSoundMarks n → HasSoundMarks (changed_attr roles.Type (codes "type") type n)
  marks n h = record {
    by_user = (like n).by_user h;
    typed = cond_both (changes_state (codes "type") type n) (moved_on n) (retyped n) (λ x. x.state.by_user ≡ false → x.state.typed ≡ []) (λ _ e. refl) (λ _. h.typed);
  }

  type_of_one : IsOfOne (changed_attr roles.Type (codes "type") type)
  type_of_one = record {
    owners = record { key = λ n. (like n).key; parent = λ n. (like n).parent; tag = λ n. (like n).tag; form = λ n. (like n).form; id = λ n. (like n).id };
    multiple = λ n. (like n).multiple;
    names = λ n. (like n).names;
    marks = marks;
    selected = λ n. (like n).selected;
  }

  -- where the state stays, so do the groups and the value
  state_kept : (n : Node) → is_input n ≡ true → changes_state (codes "type") type n ≡ false → kind_of (retyped n) ≡ kind_of n
  state_kept n input h =
      let stays : not (same_kind n (retyped n)) ≡ false = rw input at h in
      sym (differs_false Kinds tt (kind_of n) (kind_of (retyped n)) stays)

  radio_kept : (n : Node) → changes_state (codes "type") type n ≡ false → is_radio (retyped n) ≡ is_radio n
  radio_kept n h = go (is_input n) refl
    where
      go : (b : Bool) → is_input n ≡ b → is_radio (retyped n) ≡ is_radio n
      go true e = ap (λ k. is_input n && is_radio_kind k) (state_kept n e h)
      go false e = ap (λ b. b && is_radio_kind (kind_of (retyped n))) e ∙ sym (ap (λ b. b && is_radio_kind (kind_of n)) e)

  value_kept : (n : Node) → changes_state (codes "type") type n ≡ false → HasSanitisedValue n → HasSanitisedValue (retyped n)
  value_kept n h held kept =
      let input : is_input n ≡ true = (and_parts (is_input n) _ kept).0 in
      let same : kind_of (retyped n) ≡ kind_of n = state_kept n input h in
      let before : has_kept_value n ≡ true = and_from _ _ input (sym (ap (λ k. is_value_mode (mode_of k)) same) ∙ (and_parts (is_input n) _ kept).1) in
      rw (same, attr_other (codes "type") (codes "min") type refl n.attrs, attr_other (codes "type") (codes "max") type refl n.attrs, attr_other (codes "type") (codes "step") type refl n.attrs, attr_other (codes "type") (codes "value") type refl n.attrs) (held before)

  -- the attribute set where the state stays, and nothing elsewhere
  abbrev where_kept : Node → Node
  where_kept n = cond (changes_state (codes "type") type n) n (retyped n)

  kept_still : IsStill where_kept
  kept_still = record {
    owners = record {
      key = λ n. each n (λ m. m.key ≡ n.key) refl refl;
      parent = λ n. each n (λ m. m.parent ≡ n.parent) refl refl;
      tag = λ n. each n (λ m. m.tag ≡ n.tag) refl refl;
      form = λ n. each n (λ m. attr_in m.attrs (codes "form") ≡ attr_in n.attrs (codes "form")) refl (typed_attr n).form;
      id = λ n. each n (λ m. attr_in m.attrs (codes "id") ≡ attr_in n.attrs (codes "id")) refl (typed_attr n).id;
    };
    radio = λ n. cond_both (changes_state (codes "type") type n) n (retyped n) (λ m. is_radio m ≡ is_radio n) (λ _. refl) (radio_kept n);
    name = λ n. each n (λ m. attr_in m.attrs (codes "name") ≡ attr_in n.attrs (codes "name")) refl (attr_other (codes "type") (codes "name") type refl n.attrs);
    multiple = λ n. each n (λ m. attr_in m.attrs (codes "multiple") ≡ attr_in n.attrs (codes "multiple")) refl (typed_attr n).multiple;
    names = λ n h. each n (λ m. NamesDiffer m.attrs) h (names_still_differ (codes "type") type n.attrs h);
    marks = λ n h. each n HasSoundMarks h (record { by_user = h.by_user; typed = h.typed });
    checked = λ n. each n (λ m. is_checked m ≡ true → is_checked n ≡ true) (λ h. h) (λ h. h);
    selected = λ n. each n (λ m. is_selected m ≡ true → is_selected n ≡ true) (λ h. h) (λ h. h);
  }
    where
      each : (n : Node) (P : Node → Type 0) → P n → P (retyped n) → P (where_kept n)
      each n P none set = cond_both (changes_state (codes "type") type n) n (retyped n) P (λ _. none) (λ _. set)

  pub type_settled : (t : Nodes) (k : Key) → IsSettled t → IsSettled (after_change roles.Type t k (codes "type") type)
  type_settled t k sound = go (passes (changes_state (codes "type") type) t k) refl
    where
      after : Nodes
      after = with_node t k (changed_attr roles.Type (codes "type") type)

      go : (b : Bool) → passes (changes_state (codes "type") type) t k ≡ b → IsSettled (cond b (with_value (with_radio after k) k) after)
      go true e =
          sound_from _ (value_settled nobody nobody (with_radio after k) k (one_radio (same_key k) nobody k [] after (one_changed (changed_attr roles.Type (codes "type") type) type_of_one t k (sound_but_nobody t sound))))
      go false e =
          subst IsSettled (sym (agreeing (changes_state (codes "type") type) false (changed_attr roles.Type (codes "type") type) where_kept (λ n stays. rw stays refl) t sound.tree k e))
          (still_settled where_kept kept_still (λ n h. cond_both (changes_state (codes "type") type n) n (retyped n) HasSanitisedValue (λ _. h) (λ stays. value_kept n stays h)) t k sound)
