-- From a sound page every act makes a sound page.
use Rattle.std.proofs.Common.{◌≡◌, ℕ, zero, suc, ◌≤◌, ◌-◌, ◌==◌, Bool, true, false, not, ◌&&◌, ◌||◌, cond, List, [], ◌∷◌, Option, Some, None, is_some, refl, sym, ap, ◌∙◌, subst, arith}
use Rattle.std.specs.List.{All, filter, fold, list_any, slice_get}
use Rattle.std.specs.Option.{option_and_then, option_map_or}
use Rattle.std.proofs.lemmas.Bool.{eq-eqb, both_ways, cond_both, or_parts}
use Rattle.std.proofs.lemmas.List.Elements.{All-cons, All-map, All-nil, All-weaker}
use Rattle.std.proofs.lemmas.Option.{none-some}
use Rattle.form_tree.specs.declared.node.Key.{Key}
use Rattle.form_tree.specs.declared.node.Node.{Node}
use Rattle.form_tree.specs.Elements.{is_select, is_textarea, passes}
use Rattle.form_tree.specs.Selects.{is_option_of}
use Rattle.form_tree.specs.Tree.{Nodes, at_key, is_key, shape_of, with_node}
use Rattle.form_page.specs.declared.file.File.{File}
use Rattle.form_page.specs.Editing.{without_file, without_file_at}
use Rattle.form_page.specs.Page.{Page, name_if_there}
use Rattle.form_page.specs.Settling.{moved_inputs, with_radio, with_selectedness}
use Rattle.form_changes.specs.declared.act.Act.{Act}
use Rattle.form_changes.specs.declared.act.Act.TheVariants as acts
use Rattle.form_changes.specs.declared.act.ActFault.{ActFault}
use Rattle.form_changes.specs.declared.act.ActFault.TheVariants as faults
use Rattle.form_changes.specs.declared.role.Role.{Role}
use Rattle.form_changes.specs.declared.role.Role.TheVariants as roles
use Rattle.form_acts.specs.Acts.{after_act, after_attr, after_change, after_choose, after_set, files_after_act, if_on, is_attr_change, nodes_after_act, outcome, page_unless, settled_after}
use Rattle.form_drafts.specs.Drafts.{with_select_of, with_selected}
use Rattle.form_changes.specs.Changing.{changed_attr, changes_state, chosen, follows_checked, follows_selected, follows_value, given, role_of, without_file_number}
use Rattle.form_acts.specs.Refusals.{is_beyond, is_file_there, is_immutable, is_of_kind, lacks_file, makes_email, refusal_at, refusal_found, refusal_of}
use Rattle.form_drafts.specs.Resetting.{reset_input, reset_option, reset_textarea, resettables, with_options_reset, with_reset}
use Rattle.form_acts.specs.Soundness.{IsSettled, IsSound, IsWithin, most_depth, most_elements}
use Rattle.form_changes.specs.Values.{is_range, with_value}
use Rattle.form_acts.proofs.ActLaws.{check_settled, pick_settled, set_selected_settled}
use Rattle.form_acts.proofs.AttrLaws.{attr_settled}
use Rattle.form_acts.proofs.Bounds.{IsBoundedAs, bounded_closed, through_check, through_custom, through_pick, through_set_selected, through_text, through_user}
use Rattle.form_drafts.proofs.Mild.{IsMild, changed_where, through_radio, through_radios, through_select_of, through_selected, through_selectedness, through_value}
use Rattle.form_acts.proofs.EditedLaws.{choose_settled, custom_settled, given_still, set_settled, text_settled, user_settled, withdraw_settled}
use Rattle.form_acts.proofs.ResetLaws.{reset_settled}
use Rattle.form_acts.proofs.Shapes.{same_depth, same_length}
use Rattle.form_acts.proofs.Sound.{all_where, shape_kept}
use Rattle.form_acts.proofs.Within.{attr_change_within, changed_key, changed_parent, given_within, within_at}

-- ---- groups, selects, values and marks

settled_by : (ns : Nodes) (act : Act) → IsSettled ns → IsSettled (nodes_after_act ns act)
settled_by ns (acts.User k text) sound = user_settled ns k text sound
settled_by ns (acts.Set k text) sound = set_settled ns k text sound
settled_by ns (acts.Attr k name value) sound = attr_settled value ns k sound name
settled_by ns (acts.Text k text) sound = text_settled ns k text sound
settled_by ns (acts.Check k on) sound = check_settled ns k on sound
settled_by ns (acts.SetChecked k on) sound = check_settled ns k on sound
settled_by ns (acts.Pick k) sound = pick_settled ns k sound
settled_by ns (acts.SetSelected k on) sound = set_selected_settled ns k on sound
settled_by ns (acts.Custom k text) sound = custom_settled ns k text sound
settled_by ns (acts.Choose k files) sound = choose_settled ns k files sound
settled_by ns (acts.Withdraw file) sound = withdraw_settled ns file sound
settled_by ns (acts.Reset k) sound = reset_settled ns k sound

-- ---- what is known of the element of an act that is not refused

abbrev allowed : Page → Act → Node → Bool
allowed page act n = not (is_some (refusal_at page act n))

allowed_there : (page : Page) (act : Act) (k : Key) → refusal_found page act (at_key page.tree.nodes k) ≡ None → passes (allowed page act) page.tree.nodes k ≡ true
allowed_there page act k none = go (at_key page.tree.nodes k) none
  where
    go : (o : Option Node) → refusal_found page act o ≡ None → option_map_or (allowed page act) o false ≡ true
    go None h = absurd (none-some faults.NoElement (sym h))
    go (Some n) h = ap (λ (o : Option ActFault). not (is_some o)) h

-- none of the causes holds
record HasNoCause (page : Page) (act : Act) (n : Node) : Type 0 where
  kind : is_of_kind page.tree.nodes act n ≡ true
  email : makes_email act n ≡ false
  file : lacks_file page.files act ≡ false
  beyond : is_beyond act n ≡ false

no_cause : (page : Page) (act : Act) (n : Node) → allowed page act n ≡ true → HasNoCause page act n
no_cause page act n h =
    let all = parts (is_of_kind page.tree.nodes act n) (is_immutable page.tree.nodes act n) (makes_email act n) (lacks_file page.files act) (is_beyond act n) h in
    record { kind = all.0; email = all.1; file = all.2; beyond = all.3 }
  where
    parts : (a b c d e : Bool) → not (is_some (cond (not a) (Some faults.WrongKind) (cond b (Some faults.Immutable) (cond c (Some faults.Email) (cond d (Some faults.NoFile) (cond e (Some faults.Limit) None)))))) ≡ true → (a ≡ true) × (c ≡ false) × (d ≡ false) × (e ≡ false)
    parts false b c d e g = absurd (cc)
    parts true true c d e g = absurd (cc)
    parts true false true d e g = absurd (cc)
    parts true false false true e g = absurd (cc)
    parts true false false false true g = absurd (cc)
    parts true false false false false g = (refl, refl, refl, refl)

-- ---- shapes of changes of one element

shaped : (f : Node → Node) → ((n : Node) → (f n).key ≡ n.key) → ((n : Node) → (f n).parent ≡ n.parent) → (t : Nodes) (k : Key) → shape_of (with_node t k f) ≡ shape_of t
shaped f keys parents t k =
    shape_kept (λ n. cond (is_key k n) (f n) n) (λ n. cond_both (is_key k n) (f n) n (λ m. m.key ≡ n.key) (λ _. keys n) (λ _. refl)) (λ n. cond_both (is_key k n) (f n) n (λ m. m.parent ≡ n.parent) (λ _. parents n) (λ _. refl)) t

-- ---- files

all_there : (files : List File) (numbers : List ℕ) → list_any (λ number. not (is_file_there files number)) numbers ≡ false → All (λ number. is_file_there files number ≡ true) numbers
all_there files [] none = All-nil (λ number. is_file_there files number ≡ true)
all_there files (number ∷ numbers) none =
    let parts = or_parts (not (is_file_there files number)) (list_any (λ number. not (is_file_there files number)) numbers) none in
    All-cons (λ number. is_file_there files number ≡ true) number numbers (holds (is_file_there files number) parts.0) (all_there files numbers parts.1)
  where
    holds : (b : Bool) → not b ≡ false → b ≡ true
    holds true e = refl
    holds false e = absurd (cc)

other_at : (files : List File) (gone place : ℕ) → (place ≡ gone → ⊥) → slice_get (without_file_at files gone) place ≡ slice_get files place
other_at [] gone place apart = refl
other_at (file ∷ files) zero zero apart = absurd (apart refl)
other_at (file ∷ files) zero (suc place) apart = refl
other_at (file ∷ files) (suc gone) zero apart = refl
other_at (file ∷ files) (suc gone) (suc place) apart = other_at files gone place (λ same. apart (ap suc same))

-- another file is still there
other_there : (files : List File) (gone number : ℕ) → (number ≡ gone → ⊥) → is_file_there files number ≡ true → is_file_there (without_file files gone) number ≡ true
other_there files zero number apart there = there
other_there files (suc gone) zero apart there = there
other_there files (suc gone) (suc number) apart there = ap (λ (o : Option File). is_some (option_and_then name_if_there o)) (other_at files gone number (λ same. apart (ap suc same))) ∙ there

-- numbers that a test tells apart
told_apart : (a b : ℕ) → (a == b) ≡ false → a ≡ b → ⊥
told_apart a b e same = both_ways _ e (eq-eqb a b same)

still_there : (files : List File) (gone : ℕ) (numbers : List ℕ) → All (λ number. is_file_there files number ≡ true) numbers → All (λ number. is_file_there (without_file files gone) number ≡ true) (filter (λ number. not (number == gone)) numbers)
still_there files gone [] all = All-nil (λ number. is_file_there (without_file files gone) number ≡ true)
still_there files gone (number ∷ numbers) all = go (number == gone) refl (still_there files gone numbers (λ i d below. all (suc i) d (omega arith)))
  where
    rest : List ℕ
    rest = filter (λ number. not (number == gone)) numbers

    go : (b : Bool) → (number == gone) ≡ b → All (λ number. is_file_there (without_file files gone) number ≡ true) rest → All (λ number. is_file_there (without_file files gone) number ≡ true) (cond (not b) (number ∷ rest) rest)
    go true e more = more
    go false e more = All-cons (λ number. is_file_there (without_file files gone) number ≡ true) number rest (other_there files gone number (told_apart number gone e) (all 0 number (omega arith))) more

-- ---- limits and shape

module _ (page : Page) where
  abbrev ns : Nodes
  ns = page.tree.nodes

  abbrev Bounded : Nodes → Type 0
  Bounded u = IsBoundedAs ns page.files u

  closed : (f : Node → Node) → IsMild f → (test : Node → Bool) (u : Nodes) → Bounded u → Bounded (changed_where test f u)
  closed = bounded_closed ns page.files

  -- what follows a change of an attribute
  after_attr_bounded : (role : Role) (name : List ℕ) (value : Option (List ℕ)) (t : Nodes) (k : Key) (u : Nodes) → Bounded u → Bounded (settled_after role name value t k u)
  after_attr_bounded role name value t k u r = go role
    where
      either : (b : Bool) (x : Nodes) → Bounded x → Bounded (cond b x u)
      either true x h = h
      either false x h = r

      go : (role : Role) → Bounded (settled_after role name value t k u)
      go roles.Type = either (passes (changes_state name value) t k) (with_value (with_radio u k) k) (through_value Bounded closed (with_radio u k) k (through_radio Bounded closed u k r))
      go roles.Value = either (passes (λ n. follows_value n || is_range n) t k) (with_value u k) (through_value Bounded closed u k r)
      go roles.Limit = either (passes is_range t k) (with_value u k) (through_value Bounded closed u k r)
      go roles.Checked = through_radios Bounded closed (if_on (passes (follows_checked (is_some value)) t k && is_some value) k) u r
      go roles.Name = through_radio Bounded closed u k r
      go roles.Owner = through_radios Bounded closed (moved_inputs t u) u r
      go roles.Selected = either (passes (follows_selected (is_some value)) t k) (with_select_of (with_selected u k (is_some value)) k)
          (through_select_of Bounded closed (with_selected u k (is_some value)) k (through_selected Bounded closed u k (is_some value) r))
      go roles.Size = through_selectedness Bounded closed u k r
      go roles.Plain = r

  -- ---- a reset

  input_within : (n : Node) → IsWithin page.files n → IsWithin page.files (reset_input n)
  input_within n h = record { attributes = h.attributes; email = h.email; chosen = λ e. refl; there = All-nil (λ number. is_file_there page.files number ≡ true) }

  one_bounded : (u : Nodes) (k : Key) → Bounded u → Bounded (with_reset u k)
  one_bounded u k r = go (passes is_select u k) (passes is_textarea u k)
    where
      input : Bounded (with_node u k reset_input)
      input = record {
        shape = shaped reset_input (λ n. refl) (λ n. refl) u k ∙ r.shape;
        within = all_where (IsWithin page.files) (is_key k) reset_input input_within u r.within;
      }

      go : (a b : Bool) → Bounded (cond a (with_selectedness (with_options_reset u k) k) (cond b (with_node u k reset_textarea) (with_value (with_radio (with_node u k reset_input) k) k)))
      go true b = through_selectedness Bounded closed (with_options_reset u k) k (closed reset_option (record { key = λ n. refl; parent = λ n. refl; tag = λ n. refl; attrs = λ n. refl; files = λ n. refl }) (λ n. is_option_of u k n.key) u r)
      go false true = closed reset_textarea (record { key = λ n. refl; parent = λ n. refl; tag = λ n. refl; attrs = λ n. refl; files = λ n. refl }) (is_key k) u r
      go false false = through_value Bounded closed (with_radio (with_node u k reset_input) k) k (through_radio Bounded closed (with_node u k reset_input) k input)

  all_bounded : (ks : List Key) (u : Nodes) → Bounded u → Bounded (fold with_reset u ks)
  all_bounded [] u r = r
  all_bounded (k ∷ ks) u r = all_bounded ks (with_reset u k) (one_bounded u k r)

module _ (page : Page) (sound : IsSound page) where
  start : Bounded page (ns page)
  start = record { shape = refl; within = sound.within }

  attr_bounded : (k : Key) (name : List ℕ) (value : Option (List ℕ)) → passes (allowed page (acts.Attr k name value)) (ns page) k ≡ true → Bounded page (after_attr (ns page) k name value)
  attr_bounded k name value ok = go (is_attr_change (ns page) k name value)
    where
      raw : Bounded page (with_node (ns page) k (changed_attr (role_of name) name value))
      raw = record {
        shape = shaped (changed_attr (role_of name) name value) (changed_key (role_of name) name value) (changed_parent (role_of name) name value) (ns page) k;
        within = within_at page.files (allowed page (acts.Attr k name value)) (changed_attr (role_of name) name value)
            (λ n yes h. let none = no_cause page (acts.Attr k name value) n yes in attr_change_within page.files name value n none.email none.beyond h) (ns page) sound.settled.tree k ok sound.within;
      }

      go : (b : Bool) → Bounded page (cond b (after_change (role_of name) (ns page) k name value) (ns page))
      go true = after_attr_bounded page (role_of name) name value (ns page) k _ raw
      go false = start

  set_bounded : (k : Key) (text : List ℕ) → passes (allowed page (acts.Set k text)) (ns page) k ≡ true → Bounded page (after_set (ns page) k text)
  set_bounded k text ok = record {
    shape = shaped (given text) (given_still text).owners.key (given_still text).owners.parent (ns page) k;
    within = within_at page.files (allowed page (acts.Set k text)) (given text)
        (λ n yes h. given_within page.files text n (no_cause page (acts.Set k text) n yes).beyond h) (ns page) sound.settled.tree k ok sound.within;
  }

  choose_bounded : (k : Key) (files : List ℕ) → passes (allowed page (acts.Choose k files)) (ns page) k ≡ true → Bounded page (after_choose (ns page) k files)
  choose_bounded k files ok = record {
    shape = shaped (chosen files) (λ n. refl) (λ n. refl) (ns page) k;
    within = within_at page.files (allowed page (acts.Choose k files)) (chosen files)
        (λ n yes h. let none = no_cause page (acts.Choose k files) n yes in record {
          attributes = h.attributes;
          email = h.email;
          chosen = λ other. absurd (both_ways _ other none.kind);
          there = all_there page.files files none.file;
        }) (ns page) sound.settled.tree k ok sound.within;
  }

  -- an act that is not refused
  bounded_by : (act : Act) → refusal_of page act ≡ None → IsBoundedAs (ns page) (files_after_act page.files act) (nodes_after_act (ns page) act)
  bounded_by (acts.User k text) ok = through_user (Bounded page) (closed page) (ns page) k text start
  bounded_by (acts.Set k text) ok = set_bounded k text (allowed_there page (acts.Set k text) k ok)
  bounded_by (acts.Attr k name value) ok = attr_bounded k name value (allowed_there page (acts.Attr k name value) k ok)
  bounded_by (acts.Text k text) ok = through_text (Bounded page) (closed page) (ns page) k text start
  bounded_by (acts.Check k on) ok = through_check (Bounded page) (closed page) (ns page) k on start
  bounded_by (acts.SetChecked k on) ok = through_check (Bounded page) (closed page) (ns page) k on start
  bounded_by (acts.Pick k) ok = through_pick (Bounded page) (closed page) (ns page) k start
  bounded_by (acts.SetSelected k on) ok = through_set_selected (Bounded page) (closed page) (ns page) k on start
  bounded_by (acts.Custom k text) ok = through_custom (Bounded page) (closed page) (ns page) k text start
  bounded_by (acts.Choose k files) ok = choose_bounded k files (allowed_there page (acts.Choose k files) k ok)
  bounded_by (acts.Withdraw file) ok = record {
    shape = shape_kept (without_file_number file) (λ n. refl) (λ n. refl) (ns page);
    within = All-map (IsWithin (without_file page.files file)) (without_file_number file) (ns page) (All-weaker (IsWithin page.files) (λ n. IsWithin (without_file page.files file) (without_file_number file n)) (λ n h. record {
      attributes = h.attributes;
      email = h.email;
      chosen = λ e. ap (λ (numbers : List ℕ). filter (λ number. not (number == file)) numbers) (h.chosen e);
      there = still_there page.files file n.state.files h.there;
    }) (ns page) sound.within);
  }
  bounded_by (acts.Reset k) ok = all_bounded page (resettables (ns page) k) (ns page) start

  made_sound : (act : Act) → refusal_of page act ≡ None → IsSound (after_act page act)
  made_sound act ok =
      let bounded = bounded_by act ok in
      record {
        settled = settled_by (ns page) act sound.settled;
        elements = subst (λ (n : ℕ). n ≤ most_elements) (sym (same_length (ns page) (nodes_after_act (ns page) act) bounded.shape)) sound.elements;
        depth = λ k. subst (λ (n : ℕ). n ≤ most_depth - 1) (sym (same_depth (ns page) (nodes_after_act (ns page) act) bounded.shape k)) (sound.depth k);
        within = bounded.within;
      }

pub act_sound : (page : Page) (act : Act) → IsSound page → IsSound (outcome page act)
act_sound page act sound = go (refusal_of page act) refl
  where
    go : (o : Option ActFault) → refusal_of page act ≡ o → IsSound (page_unless o page (after_act page act))
    go None ok = made_sound page sound act ok
    go (Some fault) refused = sound
