-- What acts keep of the bounds of a page: the shape of its tree, and the limits of each element.
use Rattle.std.proofs.Common.{◌≡◌, ℕ, ◌≤◌, Bool, true, false, not, ◌&&◌, cond, List, length, refl, sym, ◌∙◌, subst, codes}
use Rattle.std.specs.List.{All}
use Rattle.std.proofs.lemmas.Bool.{cond_both}
use Rattle.form_types.specs.TypeTable.{kind_named, names_email}
use Rattle.form_tree.specs.declared.node.Key.{Key}
use Rattle.form_tree.specs.declared.node.Node.{Node}
use Rattle.form_tree.specs.Elements.{is_input_tag, is_textarea}
use Rattle.form_tree.specs.Tree.{Nodes, attr_in, is_key, shape_of, with_node}
use Rattle.form_page.specs.declared.file.File.{File}
use Rattle.form_acts.specs.Acts.{after_check, after_custom, after_pick, after_set_selected, after_text, after_user, if_on, is_picked}
use Rattle.form_drafts.specs.Drafts.{with_selected}
use Rattle.form_changes.specs.Changing.{is_file_kind, retold, set_checked, set_selected, typed, with_message}
use Rattle.form_acts.specs.Refusals.{is_file_there}
use Rattle.form_changes.specs.declared.TheConstants.{MOST_ATTRIBUTES}
use Rattle.form_acts.specs.Soundness.{IsWithin}
use Rattle.form_changes.specs.Values.{has_kept_value}
use Rattle.form_acts.proofs.Sound.{all_where, shape_kept}
use Rattle.form_drafts.proofs.Mild.{IsMild, changed_where, through_radios, through_select_of, through_selected}

-- ---- acts whose change is mild

module _ (R : Nodes → Type 0) (closed : (f : Node → Node) → IsMild f → (test : Node → Bool) (u : Nodes) → R u → R (changed_where test f u)) where
  pub through_user : (u : Nodes) (k : Key) (text : List ℕ) → R u → R (after_user u k text)
  through_user u k text r = closed (typed text) (record {
    key = λ n. cond_both (has_kept_value n) _ _ (λ (m : Node). m.key ≡ n.key) (λ _. refl) (λ _. refl);
    parent = λ n. cond_both (has_kept_value n) _ _ (λ (m : Node). m.parent ≡ n.parent) (λ _. refl) (λ _. refl);
    tag = λ n. cond_both (has_kept_value n) _ _ (λ (m : Node). m.tag ≡ n.tag) (λ _. refl) (λ _. refl);
    attrs = λ n. cond_both (has_kept_value n) _ _ (λ (m : Node). m.attrs ≡ n.attrs) (λ _. refl) (λ _. refl);
    files = λ n. cond_both (has_kept_value n) _ _ (λ (m : Node). m.state.files ≡ n.state.files) (λ _. refl) (λ _. refl);
  }) (is_key k) u r

  pub through_text : (u : Nodes) (k : Key) (text : List ℕ) → R u → R (after_text u k text)
  through_text u k text r = closed (retold text) (record {
    key = λ n. cond_both (is_textarea n && not n.state.dirty) _ _ (λ (m : Node). m.key ≡ n.key) (λ _. refl) (λ _. refl);
    parent = λ n. cond_both (is_textarea n && not n.state.dirty) _ _ (λ (m : Node). m.parent ≡ n.parent) (λ _. refl) (λ _. refl);
    tag = λ n. cond_both (is_textarea n && not n.state.dirty) _ _ (λ (m : Node). m.tag ≡ n.tag) (λ _. refl) (λ _. refl);
    attrs = λ n. cond_both (is_textarea n && not n.state.dirty) _ _ (λ (m : Node). m.attrs ≡ n.attrs) (λ _. refl) (λ _. refl);
    files = λ n. cond_both (is_textarea n && not n.state.dirty) _ _ (λ (m : Node). m.state.files ≡ n.state.files) (λ _. refl) (λ _. refl);
  }) (is_key k) u r

  pub through_custom : (u : Nodes) (k : Key) (text : List ℕ) → R u → R (after_custom u k text)
  through_custom u k text r = closed (with_message text) (record { key = λ n. refl; parent = λ n. refl; tag = λ n. refl; attrs = λ n. refl; files = λ n. refl }) (is_key k) u r

  pub through_check : (u : Nodes) (k : Key) (on : Bool) → R u → R (after_check u k on)
  through_check u k on r = through_radios R closed (if_on on k) (with_node u k (set_checked on)) (closed (set_checked on) (record { key = λ n. refl; parent = λ n. refl; tag = λ n. refl; attrs = λ n. refl; files = λ n. refl }) (is_key k) u r)

  set_selected_through : (u : Nodes) (k : Key) (on : Bool) → R u → R (with_node u k (set_selected on))
  set_selected_through u k on r = closed (set_selected on) (record { key = λ n. refl; parent = λ n. refl; tag = λ n. refl; attrs = λ n. refl; files = λ n. refl }) (is_key k) u r

  pub through_pick : (u : Nodes) (k : Key) → R u → R (after_pick u k)
  through_pick u k r = through_selected R closed (with_node u k (set_selected (is_picked u k))) k (is_picked u k) (set_selected_through u k (is_picked u k) r)

  pub through_set_selected : (u : Nodes) (k : Key) (on : Bool) → R u → R (after_set_selected u k on)
  through_set_selected u k on r = through_select_of R closed (with_selected (with_node u k (set_selected on)) k on) k (through_selected R closed (with_node u k (set_selected on)) k on (set_selected_through u k on r))

-- ---- limits and shape

-- what is within its limits stays so where what it is and its files stay
pub within_like : (files : List File) (n m : Node) → m.tag ≡ n.tag → m.attrs ≡ n.attrs → m.state.files ≡ n.state.files → IsWithin files n → IsWithin files m
within_like files n m tag attrs chosen h = record {
  attributes = subst (λ (a : List (List ℕ × List ℕ)). length a ≤ MOST_ATTRIBUTES) (sym attrs) h.attributes;
  email = λ e. subst (λ (a : List (List ℕ × List ℕ)). names_email (attr_in a (codes "type")) ≡ false) (sym attrs) (h.email (subst (λ t. is_input_tag t ≡ true) tag e));
  chosen = λ e. chosen ∙ h.chosen (subst (λ (a : List (List ℕ × List ℕ)). (is_input_tag n.tag && is_file_kind (kind_named (attr_in a (codes "type")))) ≡ false) attrs (subst (λ t. (is_input_tag t && is_file_kind (kind_named (attr_in m.attrs (codes "type")))) ≡ false) tag e));
  there = subst (λ (fs : List ℕ). All (λ number. is_file_there files number ≡ true) fs) (sym chosen) h.there;
}

-- a page of the same shape whose elements are within their limits
pub record IsBoundedAs (t : Nodes) (files : List File) (u : Nodes) : Type 0 where
  pub shape : shape_of u ≡ shape_of t
  pub within : All (IsWithin files) u

pub bounded_closed : (t : Nodes) (files : List File) (f : Node → Node) → IsMild f → (test : Node → Bool) (u : Nodes) → IsBoundedAs t files u → IsBoundedAs t files (changed_where test f u)
bounded_closed t files f mild test u r = record {
  shape = shape_kept (λ n. cond (test n) (f n) n) (λ n. cond_both (test n) (f n) n (λ m. m.key ≡ n.key) (λ _. mild.key n) (λ _. refl)) (λ n. cond_both (test n) (f n) n (λ m. m.parent ≡ n.parent) (λ _. mild.parent n) (λ _. refl)) u ∙ r.shape;
  within = all_where (IsWithin files) test f (λ n h. within_like files n (f n) (mild.tag n) (mild.attrs n) (mild.files n) h) u r.within;
}
