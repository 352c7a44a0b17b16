-- Changes that keep what an element is and which files it has, and the steps along radio buttons,
-- options and values, which are such changes one after the other.
use Rattle.std.proofs.Common.{◌≡◌, ◌==◌, Bool, true, false, not, ◌&&◌, cond, List, [], ◌∷◌, map, Option, Some, None, refl}
use Rattle.std.specs.Option.{option_map_or}
use Rattle.std.proofs.lemmas.Bool.{cond_both}
use Rattle.form_tree.specs.declared.node.Key.{Key}
use Rattle.form_tree.specs.declared.node.Node.{Node}
use Rattle.form_tree.specs.Elements.{passes}
use Rattle.form_tree.specs.RadioGroup.{is_checked, share_group}
use Rattle.form_tree.specs.Selects.{display_size, is_multiple, is_option_of, select_of, share_select}
use Rattle.form_tree.specs.Tree.{Nodes, is_key, with_node}
use Rattle.form_page.specs.Settling.{changed_but, first_enabled, last_selected, not_selected, now_selected, off, with_last, with_radio, with_radios, with_selectedness, with_selection}
use Rattle.form_drafts.specs.Drafts.{with_select_of, with_selected}
use Rattle.form_changes.specs.Values.{has_kept_value, with_sanitised_value, with_value}

-- a change where a test passes
abbrev pub changed_where : (Node → Bool) → (Node → Node) → Nodes → Nodes
changed_where test f t = map (λ n. cond (test n) (f n) n) t

-- a change that keeps what an element is and which files it has
pub record IsMild (f : Node → Node) : Type 0 where
  pub key : (n : Node) → (f n).key ≡ n.key
  pub parent : (n : Node) → (f n).parent ≡ n.parent
  pub tag : (n : Node) → (f n).tag ≡ n.tag
  pub attrs : (n : Node) → (f n).attrs ≡ n.attrs
  pub files : (n : Node) → (f n).state.files ≡ n.state.files

-- ---- the steps are mild changes, one after the other

module _ (R : Nodes → Type 0) (closed : (f : Node → Node) → IsMild f → (test : Node → Bool) (u : Nodes) → R u → R (changed_where test f u)) where
  off_mild : IsMild off
  off_mild = record { key = λ n. refl; parent = λ n. refl; tag = λ n. refl; attrs = λ n. refl; files = λ n. refl }

  not_selected_mild : IsMild not_selected
  not_selected_mild = record { key = λ n. refl; parent = λ n. refl; tag = λ n. refl; attrs = λ n. refl; files = λ n. refl }

  now_selected_mild : IsMild now_selected
  now_selected_mild = record { key = λ n. refl; parent = λ n. refl; tag = λ n. refl; attrs = λ n. refl; files = λ n. refl }

  sanitised_mild : IsMild with_sanitised_value
  sanitised_mild = record {
    key = λ n. cond_both (has_kept_value n) _ n (λ m. m.key ≡ n.key) (λ _. refl) (λ _. refl);
    parent = λ n. cond_both (has_kept_value n) _ n (λ m. m.parent ≡ n.parent) (λ _. refl) (λ _. refl);
    tag = λ n. cond_both (has_kept_value n) _ n (λ m. m.tag ≡ n.tag) (λ _. refl) (λ _. refl);
    attrs = λ n. cond_both (has_kept_value n) _ n (λ m. m.attrs ≡ n.attrs) (λ _. refl) (λ _. refl);
    files = λ n. cond_both (has_kept_value n) _ n (λ m. m.state.files ≡ n.state.files) (λ _. refl) (λ _. refl);
  }

  pub through_radio : (u : Nodes) (k : Key) → R u → R (with_radio u k)
  through_radio u k r = cond_both (passes is_checked u k) (changed_but off (share_group u k) k u) u R (λ _. closed off off_mild (λ n. share_group u k n.key && not (is_key k n)) u r) (λ _. r)

  pub through_radios : (ks : List Key) (u : Nodes) → R u → R (with_radios u ks)
  through_radios [] u r = r
  through_radios (k ∷ ks) u r = through_radios ks (with_radio u k) (through_radio u k r)

  pub through_selection : (u : Nodes) (k : Key) → R u → R (with_selection u k)
  through_selection u k r = closed not_selected not_selected_mild (λ n. share_select u k n.key && not (is_key k n)) u r

  pub through_selected : (u : Nodes) (k : Key) (on : Bool) → R u → R (with_selected u k on)
  through_selected u k true r = through_selection u k r
  through_selected u k false r = r

  pub through_selectedness : (u : Nodes) (s : Key) → R u → R (with_selectedness u s)
  through_selectedness u s r = cond_both (is_multiple u s) u (with_last u s (last_selected u s)) R (λ _. r) (λ _. last (last_selected u s))
    where
      first : (b : Bool) (o : Option Node) → R (cond b (option_map_or (λ (n : Node). with_node u n.key now_selected) o u) u)
      first true (Some n) = closed now_selected now_selected_mild (is_key n.key) u r
      first true None = r
      first false o = r

      last : (o : Option Node) → R (with_last u s o)
      last (Some n) = closed not_selected not_selected_mild (λ m. is_option_of u s m.key && not (is_key n.key m)) u r
      last None = first (display_size u s == 1) (first_enabled u s)

  pub through_select_of : (u : Nodes) (k : Key) → R u → R (with_select_of u k)
  through_select_of u k r = go (select_of u k)
    where
      go : (o : Option Key) → R (option_map_or (with_selectedness u) o u)
      go (Some s) = through_selectedness u s r
      go None = r

  pub through_value : (u : Nodes) (k : Key) → R u → R (with_value u k)
  through_value u k r = closed with_sanitised_value sanitised_mild (is_key k) u r
