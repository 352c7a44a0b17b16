-- What acts leave of the files that elements name: no element names one that none named before, but those that an
-- act chooses.
use Rattle.std.proofs.Common.{◌≡◌, ℕ, ◌==◌, Bool, true, false, not, ◌&&◌, ◌||◌, cond, List, [], ◌∷◌, Option, Some, None, is_some, refl, sym, subst, codes}
use Rattle.std.specs.List.{All, fold}
use Rattle.std.proofs.lemmas.Bool.{cond_both}
use Rattle.std.proofs.lemmas.List.Elements.{All-filter, All-map, All-nil, All-weaker}
use Rattle.form_types.specs.declared.kind.Kind.{Kind}
use Rattle.form_types.specs.declared.kind.Mode.{Mode}
use Rattle.form_types.specs.declared.kind.Mode.TheVariants as modes
use Rattle.form_types.specs.TypeTable.{mode_of}
use Rattle.form_tree.specs.declared.node.Key.{Key}
use Rattle.form_tree.specs.declared.node.Node.{Node}
use Rattle.form_tree.specs.Attributes.{set_attr}
use Rattle.form_tree.specs.Elements.{is_empty_text, is_input, is_select, is_textarea, kind_of, passes}
use Rattle.form_tree.specs.Selects.{is_option_of}
use Rattle.form_tree.specs.Tree.{Nodes, is_key, with_node}
use Rattle.form_page.specs.Page.{Page}
use Rattle.form_page.specs.Settling.{moved_inputs, with_radio, with_selectedness}
use Rattle.form_changes.specs.declared.act.Act.{Act}
use Rattle.form_changes.specs.declared.act.Act.TheVariants as acts
use Rattle.form_changes.specs.declared.act.ActFault.{ActFault}
use Rattle.form_changes.specs.declared.role.Role.{Role}
use Rattle.form_changes.specs.declared.role.Role.TheVariants as roles
use Rattle.form_changes.specs.Changing.{changed_attr, changes_state, chosen, follows_checked, follows_selected, follows_value, given, given_in, is_file_kind, role_of, with_kind, with_mode, without_file_number}
use Rattle.form_changes.specs.Values.{is_range, with_value}
use Rattle.form_drafts.specs.Drafts.{with_select_of, with_selected}
use Rattle.form_drafts.specs.Resetting.{reset_input, reset_option, reset_textarea, resettables, with_options_reset, with_reset}
use Rattle.form_drafts.proofs.Mild.{IsMild, changed_where, through_radio, through_radios, through_select_of, through_selected, through_selectedness, through_value}
use Rattle.form_acts.specs.Acts.{after_act, after_change, if_on, is_attr_change, nodes_after_act, outcome, page_unless, settled_after}
use Rattle.form_acts.specs.Refusals.{refusal_of}
use Rattle.form_acts.proofs.Bounds.{through_check, through_custom, through_pick, through_set_selected, through_text, through_user}
use Rattle.form_acts.proofs.Sound.{all_where}

-- ---- a change of the state of an input keeps its files, or takes them

mode_files : (from to : Mode) (n : Node) → (with_mode from to n).state.files ≡ n.state.files
mode_files from to n = go from to
  where
    to_attr : (cond (is_empty_text n.state.value) n (set_attr (codes "value") (Some n.state.value) n)).state.files ≡ n.state.files
    to_attr = cond_both (is_empty_text n.state.value) n (set_attr (codes "value") (Some n.state.value) n) (λ m. m.state.files ≡ n.state.files) (λ _. refl) (λ _. refl)

    go : (from to : Mode) → (with_mode from to n).state.files ≡ n.state.files
    go modes.Value modes.Value = refl
    go modes.Value modes.Default = to_attr
    go modes.Value modes.DefaultOn = to_attr
    go modes.Value modes.Filename = refl
    go modes.Default modes.Value = refl
    go modes.DefaultOn modes.Value = refl
    go modes.Filename modes.Value = refl
    go modes.Filename modes.Filename = refl
    go modes.Default modes.Filename = refl
    go modes.DefaultOn modes.Filename = refl
    go modes.Default modes.Default = refl
    go modes.Default modes.DefaultOn = refl
    go modes.DefaultOn modes.Default = refl
    go modes.DefaultOn modes.DefaultOn = refl
    go modes.Filename modes.Default = refl
    go modes.Filename modes.DefaultOn = refl

module _ (P : ℕ → Type 0) where
  -- of each file that the element names
  abbrev Holds : Node → Type 0
  Holds n = All P n.state.files

  abbrev Named : Nodes → Type 0
  Named ns = All (λ n. All P n.state.files) ns

  closed : (f : Node → Node) → IsMild f → (test : Node → Bool) (u : Nodes) → Named u → Named (changed_where test f u)
  closed f mild test u all = all_where Holds test f (λ n h. subst (All P) (sym (mild.files n)) h) u all

  -- ---- one element alone

  given_holds : (text : List ℕ) (n : Node) → Holds n → Holds (given text n)
  given_holds text n h = cond_both (is_input n) (given_in (mode_of (kind_of n)) text n) _ Holds (λ _. in_mode (mode_of (kind_of n))) (λ _. h)
    where
      in_mode : (m : Mode) → Holds (given_in m text n)
      in_mode modes.Value = h
      in_mode modes.Default = h
      in_mode modes.DefaultOn = h
      in_mode modes.Filename = All-nil P

  kind_holds : (from to : Kind) (n : Node) → Holds n → Holds (with_kind from to n)
  kind_holds from to n h =
      cond_both (is_file_kind from || is_file_kind to) [] (with_mode (mode_of from) (mode_of to) n).state.files (All P) (λ _. All-nil P)
      (λ _. subst (All P) (sym (mode_files (mode_of from) (mode_of to) n)) h)

  attr_holds : (role : Role) (name : List ℕ) (value : Option (List ℕ)) (n : Node) → Holds n → Holds (changed_attr role name value n)
  attr_holds role name value n h = go role
    where
      m : Node
      m = set_attr name value n

      go : (role : Role) → Holds (changed_attr role name value n)
      go roles.Type = cond_both (changes_state name value n) (with_kind (kind_of n) (kind_of m) m) m Holds (λ _. kind_holds (kind_of n) (kind_of m) m h) (λ _. h)
      go roles.Value = cond_both (follows_value n) _ m Holds (λ _. h) (λ _. h)
      go roles.Checked = cond_both (follows_checked (is_some value) n) _ m Holds (λ _. h) (λ _. h)
      go roles.Selected = cond_both (follows_selected (is_some value) n) _ m Holds (λ _. h) (λ _. h)
      go roles.Limit = h
      go roles.Name = h
      go roles.Owner = h
      go roles.Size = h
      go roles.Plain = h

  -- ---- what follows a change of an attribute

  settled_named : (role : Role) (name : List ℕ) (value : Option (List ℕ)) (t : Nodes) (k : Key) (u : Nodes) → Named u → Named (settled_after role name value t k u)
  settled_named role name value t k u r = go role
    where
      either : (b : Bool) (x : Nodes) → Named x → Named (cond b x u)
      either true x h = h
      either false x h = r

      go : (role : Role) → Named (settled_after role name value t k u)
      go roles.Type = either (passes (changes_state name value) t k) (with_value (with_radio u k) k) (through_value Named closed (with_radio u k) k (through_radio Named closed u k r))
      go roles.Value = either (passes (λ n. follows_value n || is_range n) t k) (with_value u k) (through_value Named closed u k r)
      go roles.Limit = either (passes is_range t k) (with_value u k) (through_value Named closed u k r)
      go roles.Checked = through_radios Named closed (if_on (passes (follows_checked (is_some value)) t k && is_some value) k) u r
      go roles.Name = through_radio Named closed u k r
      go roles.Owner = through_radios Named closed (moved_inputs t u) u r
      go roles.Selected = either (passes (follows_selected (is_some value)) t k) (with_select_of (with_selected u k (is_some value)) k)
          (through_select_of Named closed (with_selected u k (is_some value)) k (through_selected Named closed u k (is_some value) r))
      go roles.Size = through_selectedness Named closed u k r
      go roles.Plain = r

  attr_named : (ns : Nodes) (k : Key) (name : List ℕ) (value : Option (List ℕ)) → Named ns → Named (nodes_after_act ns (acts.Attr k name value))
  attr_named ns k name value all = go (is_attr_change ns k name value)
    where
      raw : Named (with_node ns k (changed_attr (role_of name) name value))
      raw = all_where Holds (is_key k) (changed_attr (role_of name) name value) (attr_holds (role_of name) name value) ns all

      go : (b : Bool) → Named (cond b (after_change (role_of name) ns k name value) ns)
      go true = settled_named (role_of name) name value ns k _ raw
      go false = all

  -- ---- a reset

  one_reset : (u : Nodes) (k : Key) → Named u → Named (with_reset u k)
  one_reset u k r = go (passes is_select u k) (passes is_textarea u k)
    where
      input : Named (with_node u k reset_input)
      input = all_where Holds (is_key k) reset_input (λ n h. All-nil P) u r

      go : (a b : Bool) → Named (cond a (with_selectedness (with_options_reset u k) k) (cond b (with_node u k reset_textarea) (with_value (with_radio (with_node u k reset_input) k) k)))
      go true b = through_selectedness Named closed (with_options_reset u k) k (all_where Holds (λ n. is_option_of u k n.key) reset_option (λ n h. h) u r)
      go false true = all_where Holds (is_key k) reset_textarea (λ n h. h) u r
      go false false = through_value Named closed (with_radio (with_node u k reset_input) k) k (through_radio Named closed (with_node u k reset_input) k input)

  all_reset : (ks : List Key) (u : Nodes) → Named u → Named (fold with_reset u ks)
  all_reset [] u r = r
  all_reset (k ∷ ks) u r = all_reset ks (with_reset u k) (one_reset u k r)

  -- ---- all acts

  act_done : (ns : Nodes) (act : Act) → ((k : Key) (files : List ℕ) → act ≡ acts.Choose k files → All P files) → Named ns → Named (nodes_after_act ns act)
  act_done ns (acts.User k text) chooses all = through_user Named closed ns k text all
  act_done ns (acts.Set k text) chooses all = all_where Holds (is_key k) (given text) (given_holds text) ns all
  act_done ns (acts.Attr k name value) chooses all = attr_named ns k name value all
  act_done ns (acts.Text k text) chooses all = through_text Named closed ns k text all
  act_done ns (acts.Check k on) chooses all = through_check Named closed ns k on all
  act_done ns (acts.SetChecked k on) chooses all = through_check Named closed ns k on all
  act_done ns (acts.Pick k) chooses all = through_pick Named closed ns k all
  act_done ns (acts.SetSelected k on) chooses all = through_set_selected Named closed ns k on all
  act_done ns (acts.Custom k text) chooses all = through_custom Named closed ns k text all
  act_done ns (acts.Choose k files) chooses all = all_where Holds (is_key k) (chosen files) (λ n h. chooses k files refl) ns all
  act_done ns (acts.Withdraw file) chooses all =
      All-map Holds (without_file_number file) ns (All-weaker Holds (λ n. Holds (without_file_number file n)) (λ n h. All-filter (λ number. not (number == file)) P n.state.files h) ns all)
  act_done ns (acts.Reset k) chooses all = all_reset (resettables ns k) ns all

  -- What holds of each file that an element names, and of those that an accepted act chooses, holds of each that an
  -- element names then.
  pub act_named : (page : Page) (act : Act) → (refusal_of page act ≡ None → (k : Key) (files : List ℕ) → act ≡ acts.Choose k files → All P files)
      → All (λ n. All P n.state.files) page.tree.nodes → All (λ n. All P n.state.files) (outcome page act).tree.nodes
  act_named page act chooses all = go (refusal_of page act) refl
    where
      go : (refusal : Option ActFault) → refusal_of page act ≡ refusal → Named (page_unless refusal page (after_act page act)).tree.nodes
      go None none = act_done page.tree.nodes act (chooses none) all
      go (Some fault) refused = all
