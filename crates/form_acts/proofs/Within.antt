-- What refuses nothing keeps each element within its limits.
use Rattle.std.proofs.Common.{◌≡◌, ℕ, ◌≤◌, Bool, true, false, not, ◌&&◌, ◌||◌, cond, List, [], length, get_or, Option, Some, is_some, refl, sym, ap, ◌∙◌, subst, codes, arith}
use Rattle.std.specs.Prelude.{nat_lt, unwrap_or}
use Rattle.std.specs.List.{All}
use Rattle.std.specs.Str.{bytes_eq}
use Rattle.std.proofs.lemmas.Bool.{cond_both, or_parts}
use Rattle.std.proofs.lemmas.Bool.Decides.{nat_tests}
use Rattle.std.proofs.lemmas.List.Elements.{All-map, All-nil}
use Rattle.std.proofs.lemmas.Slice.Eq.{bytes_eq-Decides}
use denote.Enum.Bare.{differs_false, true_same}
use Rattle.form_types.specs.contracts.kind.Kind.{the_type as Kinds}
use Rattle.form_types.specs.declared.kind.Mode.{Mode}
use Rattle.form_types.specs.declared.kind.Mode.TheVariants as modes
use Rattle.form_types.specs.TypeTable.{mode_of, names_email}
use Rattle.form_tree.specs.declared.node.Key.{Key}
use Rattle.form_tree.specs.declared.node.Node.{Node}
use Rattle.form_tree.specs.declared.node.State.{State}
use Rattle.form_tree.specs.Attributes.{set_attr}
use Rattle.form_tree.specs.Elements.{is_empty_text, is_input, kind_of, passes}
use Rattle.form_tree.specs.Tree.{IsTree, Nodes, attr_in, is_key, with_node}
use Rattle.form_tree.proofs.Laws.{attr_other}
use Rattle.form_page.specs.declared.file.File.{File}
use Rattle.form_changes.specs.declared.role.Role.{Role}
use Rattle.form_changes.specs.declared.role.Role.TheVariants as roles
use Rattle.form_changes.specs.Changing.{changed_attr, changes_state, follows_checked, follows_selected, follows_value, given, given_in, is_file_kind, role_of, same_kind, with_checked, with_kind, with_mode, with_selected_as, with_value_text}
use Rattle.form_acts.specs.Refusals.{is_file, is_file_there}
use Rattle.form_changes.specs.declared.TheConstants.{MOST_ATTRIBUTES}
use Rattle.form_acts.specs.Soundness.{IsWithin}
use Rattle.form_acts.proofs.Bounds.{within_like}
use Rattle.form_changes.proofs.AttrSet.{attr_set}
use Rattle.form_acts.proofs.Still.{at_key_is, kind_same}

-- ---- the element of a key, of which something is known

pub within_at : (files : List File) (test : Node → Bool) (f : Node → Node) → ((n : Node) → test n ≡ true → IsWithin files n → IsWithin files (f n)) → (t : Nodes) → IsTree t → (k : Key) → passes test t k ≡ true → All (IsWithin files) t → All (IsWithin files) (with_node t k f)
within_at files test f each t tree k holds all =
    All-map (IsWithin files) (λ n. cond (is_key k n) (f n) n) t (λ i d below. go (get_or t i d) (at_key_is test true t tree k holds i d below) (all i d below))
  where
    go : (n : Node) → (is_key k n ≡ true → test n ≡ true) → IsWithin files n → IsWithin files (cond (is_key k n) (f n) n)
    go n h w = cond_both (is_key k n) (f n) n (IsWithin files) (λ e. each n (h e) w) (λ _. w)

-- ---- an attribute set

no_more : (n : ℕ) → nat_lt MOST_ATTRIBUTES n ≡ false → n ≤ MOST_ATTRIBUTES
no_more n h = grind (arith, nat_tests)

module _ (files : List File) where
  -- an attribute that is not `type`
  attr_within : (name : List ℕ) → bytes_eq name (codes "type") ≡ false → (value : Option (List ℕ)) (n : Node) → length (set_attr name value n).attrs ≤ MOST_ATTRIBUTES → IsWithin files n → IsWithin files (set_attr name value n)
  attr_within name apart value n few h = record {
    attributes = few;
    email = λ e. ap names_email (attr_other name (codes "type") value apart n.attrs) ∙ h.email e;
    chosen = λ e. h.chosen (sym (ap (λ k. is_input n && is_file_kind k) (kind_same name value apart n)) ∙ e);
    there = h.there;
  }

  pub given_within : (text : List ℕ) (n : Node) → nat_lt MOST_ATTRIBUTES (length (given text n).attrs) ≡ false → IsWithin files n → IsWithin files (given text n)
  given_within text n few h = go (is_input n) refl few
    where
      in_mode : (m : Mode) → nat_lt MOST_ATTRIBUTES (length (given_in m text n).attrs) ≡ false → IsWithin files (given_in m text n)
      in_mode modes.Value l = within_like files n _ refl refl refl h
      in_mode modes.Default l = attr_within (codes "value") refl (Some text) n (no_more _ l) h
      in_mode modes.DefaultOn l = attr_within (codes "value") refl (Some text) n (no_more _ l) h
      in_mode modes.Filename l = record { attributes = h.attributes; email = h.email; chosen = λ e. refl; there = All-nil (λ number. is_file_there files number ≡ true) }

      go : (b : Bool) → is_input n ≡ b → nat_lt MOST_ATTRIBUTES (length (cond b (given_in (mode_of (kind_of n)) text n) (record n { state = record n.state { value = text; dirty = true; by_user = false; typed = [] } })).attrs) ≡ false → IsWithin files (cond b (given_in (mode_of (kind_of n)) text n) (record n { state = record n.state { value = text; dirty = true; by_user = false; typed = [] } }))
      go true e l = in_mode (mode_of (kind_of n)) l
      go false e l = within_like files n _ refl refl refl h

  -- ---- any attribute, by what it is for

  -- a change between modes keeps the files, and its attribute is none that says the state
  mode_kept : (P : Node → Type 0) (m : Node) → P m → P (set_attr (codes "value") (Some m.state.value) m) → P (record m { state = record m.state { value = unwrap_or (attr_in m.attrs (codes "value")) []; dirty = false; by_user = false } }) → P (with_value_text [] m) → (from to : Mode) → P (with_mode from to m)
  mode_kept P m same attr from_attr emptied from to = go from to
    where
      to_attr : P (cond (is_empty_text m.state.value) m (set_attr (codes "value") (Some m.state.value) m))
      to_attr = cond_both (is_empty_text m.state.value) m (set_attr (codes "value") (Some m.state.value) m) P (λ _. same) (λ _. attr)

      go : (from to : Mode) → P (with_mode from to m)
      go modes.Value modes.Value = same
      go modes.Value modes.Default = to_attr
      go modes.Value modes.DefaultOn = to_attr
      go modes.Value modes.Filename = emptied
      go modes.Default modes.Value = from_attr
      go modes.DefaultOn modes.Value = from_attr
      go modes.Filename modes.Value = from_attr
      go modes.Filename modes.Filename = same
      go modes.Default modes.Filename = emptied
      go modes.DefaultOn modes.Filename = emptied
      go modes.Default modes.Default = same
      go modes.Default modes.DefaultOn = same
      go modes.DefaultOn modes.Default = same
      go modes.DefaultOn modes.DefaultOn = same
      go modes.Filename modes.Default = same
      go modes.Filename modes.DefaultOn = same

module _ (files : List File) (value : Option (List ℕ)) (n : Node) (h : IsWithin files n) where
  abbrev retyped : Node
  retyped = set_attr (codes "type") value n

  -- where the state stays, a file input stays one
  stays_file : changes_state (codes "type") value n ≡ false → is_file retyped ≡ false → is_file n ≡ false
  stays_file stays e = go (is_input n) refl
    where
      go : (b : Bool) → is_input n ≡ b → is_file n ≡ false
      go true input =
          let kept : not (same_kind n retyped) ≡ false = rw input at stays in
          let same : kind_of n ≡ kind_of retyped = differs_false Kinds tt (kind_of n) (kind_of retyped) kept in
          ap (λ k. is_input n && is_file_kind k) same ∙ e
      go false input = rw input refl

  -- the files are gone, or the input had none
  moved_files : (b : Bool) → (is_file_kind (kind_of n) || b) ≡ false → n.state.files ≡ []
  moved_files b none =
      let other : is_file_kind (kind_of n) ≡ false = (or_parts (is_file_kind (kind_of n)) b none).0 in
      h.chosen (ap (λ x. is_input n && x) other ∙ no_and (is_input n))
    where
      no_and : (a : Bool) → (a && false) ≡ false
      no_and true = refl
      no_and false = refl

  type_within : (is_input n ≡ true → names_email value ≡ false) → length (changed_attr roles.Type (codes "type") value n).attrs ≤ MOST_ATTRIBUTES → IsWithin files (changed_attr roles.Type (codes "type") value n)
  type_within email few = go (changes_state (codes "type") value n) refl few
    where
      moved : Node
      moved = with_mode (mode_of (kind_of n)) (mode_of (kind_of retyped)) retyped

      is_named_so : is_input n ≡ true → names_email (attr_in retyped.attrs (codes "type")) ≡ false
      is_named_so e = ap names_email (attr_set (codes "type") value n.attrs) ∙ email e

      moved_email : is_input moved ≡ true → names_email (attr_in moved.attrs (codes "type")) ≡ false
      moved_email = mode_kept files (λ x. is_input x ≡ true → names_email (attr_in x.attrs (codes "type")) ≡ false) retyped is_named_so
          (λ e. ap names_email (attr_other (codes "value") (codes "type") (Some retyped.state.value) refl retyped.attrs) ∙ is_named_so e) is_named_so is_named_so (mode_of (kind_of n)) (mode_of (kind_of retyped))

      same_files : moved.state.files ≡ n.state.files
      same_files = mode_kept files (λ x. x.state.files ≡ n.state.files) retyped refl refl refl refl (mode_of (kind_of n)) (mode_of (kind_of retyped))

      leaves : Bool
      leaves = is_file_kind (kind_of n) || is_file_kind (kind_of retyped)

      go : (b : Bool) → changes_state (codes "type") value n ≡ b → length (cond b (with_kind (kind_of n) (kind_of retyped) retyped) retyped).attrs ≤ MOST_ATTRIBUTES → IsWithin files (cond b (with_kind (kind_of n) (kind_of retyped) retyped) retyped)
      go true e l = record {
        attributes = l;
        email = moved_email;
        chosen = λ _. none leaves refl;
        there = cond_both leaves [] moved.state.files (All (λ number. is_file_there files number ≡ true)) (λ _. All-nil (λ number. is_file_there files number ≡ true)) (λ _. subst (All (λ number. is_file_there files number ≡ true)) (sym same_files) h.there);
      }
        where
          none : (b : Bool) → leaves ≡ b → cond b [] moved.state.files ≡ []
          none true g = refl
          none false g = same_files ∙ moved_files (is_file_kind (kind_of retyped)) g
      go false e l = record { attributes = l; email = is_named_so; chosen = λ f. h.chosen (stays_file e f); there = h.there }

module _ (files : List File) where
  -- an attribute of any role, where its name is not `type`
  other_within : (role : Role) (name : List ℕ) → bytes_eq name (codes "type") ≡ false → (value : Option (List ℕ)) (n : Node) → changes_state name value n ≡ false → IsWithin files n → length (changed_attr role name value n).attrs ≤ MOST_ATTRIBUTES → IsWithin files (changed_attr role name value n)
  other_within role name apart value n stays h few = by_role role few
    where
      m : Node
      m = set_attr name value n

      -- where a state follows, it is one of the node with the attribute
      either : (b : Bool) (x : Node) → x.tag ≡ m.tag → x.attrs ≡ m.attrs → x.state.files ≡ m.state.files → length (cond b x m).attrs ≤ MOST_ATTRIBUTES → IsWithin files (cond b x m)
      either true x tag attrs chosen l = within_like files m x tag attrs chosen (attr_within files name apart value n (subst (λ (a : List (List ℕ × List ℕ)). length a ≤ MOST_ATTRIBUTES) attrs l) h)
      either false x tag attrs chosen l = attr_within files name apart value n l h

      by_role : (r : Role) → length (changed_attr r name value n).attrs ≤ MOST_ATTRIBUTES → IsWithin files (changed_attr r name value n)
      by_role roles.Type l = rw stays (attr_within files name apart value n (rw stays at l) h)
      by_role roles.Value l = either (follows_value n) (with_value_text (unwrap_or value []) m) refl refl refl l
      by_role roles.Checked l = either (follows_checked (is_some value) n) (with_checked (is_some value) m) refl refl refl l
      by_role roles.Selected l = either (follows_selected (is_some value) n) (with_selected_as (is_some value) m) refl refl refl l
      by_role roles.Limit l = attr_within files name apart value n l h
      by_role roles.Name l = attr_within files name apart value n l h
      by_role roles.Owner l = attr_within files name apart value n l h
      by_role roles.Size l = attr_within files name apart value n l h
      by_role roles.Plain l = attr_within files name apart value n l h

  -- the change of any attribute that is not refused
  pub attr_change_within : (name : List ℕ) (value : Option (List ℕ)) (n : Node) → (is_input n && (bytes_eq name (codes "type") && names_email value)) ≡ false → nat_lt MOST_ATTRIBUTES (length (changed_attr (role_of name) name value n).attrs) ≡ false → IsWithin files n → IsWithin files (changed_attr (role_of name) name value n)
  attr_change_within name value n email few h = go (bytes_eq name (codes "type")) refl
    where
      is_type : name ≡ codes "type" → IsWithin files (changed_attr (role_of name) name value n)
      is_type same =
          subst (λ (x : List ℕ). IsWithin files (changed_attr (role_of x) x value n)) (sym same)
          (type_within files value n h (λ input. no_email input (subst (λ (x : List ℕ). (is_input n && (bytes_eq x (codes "type") && names_email value)) ≡ false) same email))
          (no_more _ (subst (λ (x : List ℕ). nat_lt MOST_ATTRIBUTES (length (changed_attr (role_of x) x value n).attrs) ≡ false) same few)))
        where
          no_email : is_input n ≡ true → (is_input n && (true && names_email value)) ≡ false → names_email value ≡ false
          no_email input g = rw input at g

      go : (b : Bool) → bytes_eq name (codes "type") ≡ b → IsWithin files (changed_attr (role_of name) name value n)
      go true e = is_type ((bytes_eq-Decides name (codes "type")).0 e)
      go false e = other_within (role_of name) name e value n (state_stays e) h (no_more _ few)
        where
          no_and : (a : Bool) → (a && false) ≡ false
          no_and true = refl
          no_and false = refl

          state_stays : bytes_eq name (codes "type") ≡ false → changes_state name value n ≡ false
          state_stays apart = ap (λ b. is_input n && not b) (true_same Kinds (kind_of n) (kind_of (set_attr name value n)) (sym (kind_same name value apart n))) ∙ no_and (is_input n)

-- ---- the change keeps the element where it is

changed_mild : (P : Node → Node → Type 0) → ((n : Node) (name : List ℕ) (value : Option (List ℕ)) → P (set_attr name value n) n) → ((n m : Node) (state : State) → P m n → P (record m { state = state }) n) → ((n m : Node) (value : Option (List ℕ)) → P m n → P (set_attr (codes "value") value m) n) → (role : Role) (name : List ℕ) (value : Option (List ℕ)) (n : Node) → P (changed_attr role name value n) n
changed_mild P set put again role name value n = go role
  where
    m : Node
    m = set_attr name value n

    raw : P m n
    raw = set n name value

    go : (role : Role) → P (changed_attr role name value n) n
    go roles.Type = cond_both (changes_state name value n) (with_kind (kind_of n) (kind_of m) m) m (λ x. P x n)
        (λ _. put n (with_mode (mode_of (kind_of n)) (mode_of (kind_of m)) m) _ (mode_kept [] (λ x. P x n) m raw (again n m (Some m.state.value) raw) (put n m _ raw) (put n m _ raw) (mode_of (kind_of n)) (mode_of (kind_of m)))) (λ _. raw)
    go roles.Value = cond_both (follows_value n) (with_value_text (unwrap_or value []) m) m (λ x. P x n) (λ _. put n m _ raw) (λ _. raw)
    go roles.Checked = cond_both (follows_checked (is_some value) n) (with_checked (is_some value) m) m (λ x. P x n) (λ _. put n m _ raw) (λ _. raw)
    go roles.Selected = cond_both (follows_selected (is_some value) n) (with_selected_as (is_some value) m) m (λ x. P x n) (λ _. put n m _ raw) (λ _. raw)
    go roles.Limit = raw
    go roles.Name = raw
    go roles.Owner = raw
    go roles.Size = raw
    go roles.Plain = raw

pub changed_key : (role : Role) (name : List ℕ) (value : Option (List ℕ)) (n : Node) → (changed_attr role name value n).key ≡ n.key
changed_key role name value n = changed_mild (λ m n. m.key ≡ n.key) (λ n name value. refl) (λ n m state h. h) (λ n m value h. h) role name value n

pub changed_parent : (role : Role) (name : List ℕ) (value : Option (List ℕ)) (n : Node) → (changed_attr role name value n).parent ≡ n.parent
changed_parent role name value n = changed_mild (λ m n. m.parent ≡ n.parent) (λ n name value. refl) (λ n m state h. h) (λ n m value h. h) role name value n
