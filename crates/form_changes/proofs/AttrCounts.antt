-- How many attributes an element has after a change.
use Rattle.std.proofs.Common.{◌≡◌, ℕ, ◌+◌, Bool, true, false, not, ◌&&◌, ◌||◌, cond, List, [], ◌∷◌, ◌++◌, length, map, Option, Some, None, is_some, refl, sym, ap, ◌∙◌, codes, arith, length-append}
use Rattle.std.specs.List.{find, list_any}
use Rattle.std.specs.Option.{option_map}
use Rattle.std.specs.Str.{bytes_eq}
use Rattle.std.specs.Prelude.{nat_le, nat_lt}
use Rattle.std.proofs.lemmas.Bool.Decides.{nat_tests}
use Rattle.std.proofs.lemmas.Bool.{both_ways, cond_both}
use Rattle.std.proofs.lemmas.List.{length-map}
use Rattle.std.proofs.lemmas.Slice.Eq.{bytes_eq-Decides}
use Rattle.form_types.specs.declared.kind.Kind.{Kind}
use Rattle.form_types.specs.declared.kind.Mode.{Mode}
use Rattle.form_types.specs.declared.kind.Mode.TheVariants as modes
use Rattle.form_types.specs.TypeTable.{mode_of}
use Rattle.form_tree.proofs.Laws.{attr_other}
use Rattle.form_tree.specs.declared.node.Node.{Node}
use Rattle.form_tree.specs.Attributes.{attrs_with, set_attr}
use Rattle.form_tree.specs.Elements.{has_attr, is_empty_text, is_input, kind_of}
use Rattle.form_tree.specs.Tree.{attr_in, is_named}
use Rattle.form_changes.proofs.AttrSet.{attr_set}
use Rattle.form_changes.specs.declared.role.Role.{Role}
use Rattle.form_changes.specs.declared.role.Role.TheVariants as roles
use Rattle.form_changes.specs.Changing.{changed_attr, changes_state, follows_checked, follows_selected, follows_value, forgotten, given, given_in, is_file_kind, role_of, with_kind, with_mode}
use Rattle.form_changes.specs.declared.TheConstants.{MOST_ATTRIBUTES}
use Rattle.form_changes.specs.Counting.{is_by_attr, is_given_by_attr, is_to_attr, is_type_role, moves_value, type_moves_value}

abbrev Attrs : Type 0
Attrs = List (List ℕ × List ℕ)

-- ---- one attribute set

any_found : {X : Type 0} (p : X → Bool) (xs : List X) → list_any p xs ≡ is_some (find p xs)
any_found p [] = refl
any_found {X} p (x ∷ xs) = go (any_found p xs) (p x)
  where
    go : list_any p xs ≡ is_some (find p xs) → (b : Bool) → (b || list_any p xs) ≡ is_some (cond b (Some x) (find p xs))
    go more true = refl
    go more false = more

some_mapped : {X Y : Type 0} (f : X → Y) (o : Option X) → is_some (option_map f o) ≡ is_some o
some_mapped f None = refl
some_mapped f (Some x) = refl

pub has_named : (name : List ℕ) (n : Node) → list_any (is_named name) n.attrs ≡ has_attr name n
has_named name n = any_found (is_named name) n.attrs ∙ sym (some_mapped (λ attr. attr.1) (find (is_named name) n.attrs))

abbrev one_if : Bool → ℕ
one_if b = cond b 0 1

pub set_count : (attrs : Attrs) (name value : List ℕ) → length (attrs_with attrs name (Some value)) ≡ length attrs + one_if (list_any (is_named name) attrs)
set_count attrs name value = go (list_any (is_named name) attrs)
  where
    go : (b : Bool) → length (cond b (map (λ attr. cond (is_named name attr) (attr.0, value) attr) attrs) (attrs ++ (name, value) ∷ [])) ≡ length attrs + one_if b
    go true = let long = length-map attrs (λ attr. cond (is_named name attr) (attr.0, value) attr) in omega (arith, long)
    go false = length-append attrs ((name, value) ∷ [])

-- ---- by role

pub other_attrs : (role : Role) (name : List ℕ) (value : Option (List ℕ)) (n : Node) → is_type_role role ≡ false → (changed_attr role name value n).attrs ≡ attrs_with n.attrs name value
other_attrs roles.Type name value n other = absurd (cc)
other_attrs roles.Value name value n other = cond_both (follows_value n) _ _ (λ (m : Node). m.attrs ≡ attrs_with n.attrs name value) (λ _. refl) (λ _. refl)
other_attrs roles.Checked name value n other = cond_both (follows_checked (is_some value) n) _ _ (λ (m : Node). m.attrs ≡ attrs_with n.attrs name value) (λ _. refl) (λ _. refl)
other_attrs roles.Selected name value n other = cond_both (follows_selected (is_some value) n) _ _ (λ (m : Node). m.attrs ≡ attrs_with n.attrs name value) (λ _. refl) (λ _. refl)
other_attrs roles.Limit name value n other = refl
other_attrs roles.Name name value n other = refl
other_attrs roles.Owner name value n other = refl
other_attrs roles.Size name value n other = refl
other_attrs roles.Plain name value n other = refl

either : (b : Bool) (x y : Role) → is_type_role x ≡ false → is_type_role y ≡ false → is_type_role (cond b x y) ≡ false
either true x y hx hy = hx
either false x y hx hy = hy

pub role_apart : (name : List ℕ) → bytes_eq name (codes "type") ≡ false → is_type_role (role_of name) ≡ false
role_apart name apart =
    rw apart
    (either (bytes_eq name (codes "value")) _ _ refl
    (either (bytes_eq name (codes "min")) _ _ refl
    (either (bytes_eq name (codes "max")) _ _ refl
    (either (bytes_eq name (codes "step")) _ _ refl
    (either (bytes_eq name (codes "checked")) _ _ refl
    (either (bytes_eq name (codes "name")) _ _ refl
    (either (bytes_eq name (codes "id")) _ _ refl
    (either (bytes_eq name (codes "form")) _ _ refl
    (either (bytes_eq name (codes "selected")) _ _ refl
    (either (bytes_eq name (codes "multiple")) _ _ refl
    (either (bytes_eq name (codes "size")) roles.Size roles.Plain refl refl)))))))))))

pub role_type : (name : List ℕ) → is_type_role (role_of name) ≡ true → name ≡ codes "type"
role_type name is = go (bytes_eq name (codes "type")) refl
  where
    go : (b : Bool) → bytes_eq name (codes "type") ≡ b → name ≡ codes "type"
    go true e = (bytes_eq-Decides name (codes "type")).0 e
    go false e = absurd (both_ways _ (role_apart name e) is)

-- ---- a change of the state

-- what is made of the attributes, and what of the state
abbrev IsMade : Bool → Node → Mode → Mode → Type 0
IsMade files m a b = forgotten files (with_mode a b m) ≡ record (cond (is_to_attr a b && not (is_empty_text m.state.value)) (set_attr (codes "value") (Some m.state.value) m) m) { state = (forgotten files (with_mode a b m)).state }

pub kind_made : (from to : Kind) (m : Node) → with_kind from to m ≡ record (cond (moves_value from to m) (set_attr (codes "value") (Some m.state.value) m) m) { state = (with_kind from to m).state }
kind_made from to m = by_mode (mode_of from) (mode_of to)
  where
    files : Bool
    files = is_file_kind from || is_file_kind to

    to_attr : (e : Bool) → forgotten files (cond e m (set_attr (codes "value") (Some m.state.value) m)) ≡ record (cond (not e) (set_attr (codes "value") (Some m.state.value) m) m) { state = (forgotten files (cond e m (set_attr (codes "value") (Some m.state.value) m))).state }
    to_attr true = refl
    to_attr false = refl

    by_mode : (a b : Mode) → IsMade files m a b
    by_mode modes.Value modes.Value = refl
    by_mode modes.Value modes.Default = to_attr (is_empty_text m.state.value)
    by_mode modes.Value modes.DefaultOn = to_attr (is_empty_text m.state.value)
    by_mode modes.Value modes.Filename = refl
    by_mode modes.Default modes.Value = refl
    by_mode modes.Default modes.Default = refl
    by_mode modes.Default modes.DefaultOn = refl
    by_mode modes.Default modes.Filename = refl
    by_mode modes.DefaultOn modes.Value = refl
    by_mode modes.DefaultOn modes.Default = refl
    by_mode modes.DefaultOn modes.DefaultOn = refl
    by_mode modes.DefaultOn modes.Filename = refl
    by_mode modes.Filename modes.Value = refl
    by_mode modes.Filename modes.Default = refl
    by_mode modes.Filename modes.DefaultOn = refl
    by_mode modes.Filename modes.Filename = refl

-- the state that the `type` attribute names after its change
pub kind_set : (value : Option (List ℕ)) (n : Node) → attr_in (set_attr (codes "type") value n).attrs (codes "type") ≡ value
kind_set value n = attr_set (codes "type") value n.attrs

-- how many attributes there are after it
pub type_count : (value : Option (List ℕ)) (n : Node) → length (changed_attr roles.Type (codes "type") value n).attrs ≡ length (attrs_with n.attrs (codes "type") value) + cond (type_moves_value (codes "type") value n && not (has_attr (codes "value") n)) 1 0
type_count value n = go (changes_state (codes "type") value n)
  where
    m : Node
    m = set_attr (codes "type") value n

    has_still : list_any (is_named (codes "value")) m.attrs ≡ has_attr (codes "value") n
    has_still = has_named (codes "value") m ∙ ap (λ o. is_some o) (attr_other (codes "type") (codes "value") value refl n.attrs)

    attrs : (b : Bool) → length (record (cond b (set_attr (codes "value") (Some m.state.value) m) m) { state = (with_kind (kind_of n) (kind_of m) m).state }).attrs ≡ length m.attrs + cond (b && not (has_attr (codes "value") n)) 1 0
    attrs true = set_count m.attrs (codes "value") m.state.value ∙ ap (λ b. length m.attrs + one_if b) has_still ∙ turned (has_attr (codes "value") n)
      where
        turned : (b : Bool) → length m.attrs + one_if b ≡ length m.attrs + cond (not b) 1 0
        turned true = refl
        turned false = refl
    attrs false = omega arith

    go : (b : Bool) → length (cond b (with_kind (kind_of n) (kind_of m) m) m).attrs ≡ length m.attrs + cond ((b && moves_value (kind_of n) (kind_of m) n) && not (has_attr (codes "value") n)) 1 0
    go true = ap (λ (x : Node). length x.attrs) (kind_made (kind_of n) (kind_of m) m) ∙ attrs (moves_value (kind_of n) (kind_of m) m)
    go false = omega arith

-- ---- a value that the script sets

pub given_attrs : (text : List ℕ) (n : Node) → is_given_by_attr n ≡ true → given text n ≡ set_attr (codes "value") (Some text) n
given_attrs text n is = go (is_input n) (mode_of (kind_of n)) refl is
  where
    go : (b : Bool) (mode : Mode) → mode_of (kind_of n) ≡ mode → (b && is_by_attr mode) ≡ true → cond b (given_in mode text n) (record n { state = record n.state { value = text; dirty = true; by_user = false; typed = [] } }) ≡ set_attr (codes "value") (Some text) n
    go true modes.Default e h = refl
    go true modes.DefaultOn e h = refl
    go true modes.Value e h = absurd (cc)
    go true modes.Filename e h = absurd (cc)
    go false mode e h = absurd (cc)

-- a node that differs from another in its state alone
abbrev pub IsOwn : Node → Node → Type 0
IsOwn n m = m ≡ record n { state = m.state }

-- the state alone is set of every other element
pub given_state : (text : List ℕ) (n : Node) → is_given_by_attr n ≡ false → given text n ≡ record n { state = (given text n).state }
given_state text n not_so = go (is_input n) (mode_of (kind_of n)) not_so
  where
    go : (b : Bool) (mode : Mode) → (b && is_by_attr mode) ≡ false → IsOwn n (cond b (given_in mode text n) (record n { state = record n.state { value = text; dirty = true; by_user = false; typed = [] } }))
    go true modes.Value h = refl
    go true modes.Default h = absurd (cc)
    go true modes.DefaultOn h = absurd (cc)
    go true modes.Filename h = refl
    go false mode h = refl

pub count_there : (n : Node) (name : List ℕ) (count : ℕ) → count ≡ length n.attrs → true ≡ has_attr name n → (value : List ℕ) → count ≡ length (attrs_with n.attrs name (Some value))
count_there n name count is there value =
    let same = set_count n.attrs name value in
    let none : one_if (list_any (is_named name) n.attrs) ≡ 0 = ap one_if (has_named name n ∙ sym there) in
    omega (arith, same, none, is)

pub count_new : (n : Node) (name : List ℕ) (count : ℕ) → count ≡ length n.attrs → false ≡ has_attr name n → (value : List ℕ) → count + 1 ≡ length (attrs_with n.attrs name (Some value))
count_new n name count is absent value =
    let same = set_count n.attrs name value in
    let one : one_if (list_any (is_named name) n.attrs) ≡ 1 = ap one_if (has_named name n ∙ sym absent) in
    omega (arith, same, one, is)

-- one attribute more is beyond the most where the others are the most already
pub type_beyond : (value : Option (List ℕ)) (n : Node) (count : ℕ) → count ≡ length (attrs_with n.attrs (codes "type") value) → true ≡ (type_moves_value (codes "type") value n && not (has_attr (codes "value") n)) → nat_le MOST_ATTRIBUTES count ≡ nat_lt MOST_ATTRIBUTES (length (changed_attr roles.Type (codes "type") value n).attrs)
type_beyond value n count is adds =
    step count (length (changed_attr roles.Type (codes "type") value n).attrs) (type_count value n ∙ ap (λ b. length (attrs_with n.attrs (codes "type") value) + cond b 1 0) (sym adds) ∙ ap (λ c. c + 1) (sym is))
  where
    step : (c all : ℕ) → all ≡ c + 1 → nat_le MOST_ATTRIBUTES c ≡ nat_lt MOST_ATTRIBUTES all
    step c all same = rw same (grind (arith, nat_tests))

pub type_within : (value : Option (List ℕ)) (n : Node) (count : ℕ) → count ≡ length (attrs_with n.attrs (codes "type") value) → false ≡ (type_moves_value (codes "type") value n && not (has_attr (codes "value") n)) → nat_lt MOST_ATTRIBUTES count ≡ nat_lt MOST_ATTRIBUTES (length (changed_attr roles.Type (codes "type") value n).attrs)
type_within value n count is none =
    ap (nat_lt MOST_ATTRIBUTES) (is ∙ sym (type_count value n ∙ ap (λ b. length (attrs_with n.attrs (codes "type") value) + cond b 1 0) (sym none) ∙ plain (length (attrs_with n.attrs (codes "type") value))))
  where
    plain : (c : ℕ) → c + 0 ≡ c
    plain c = omega arith

pub beyond_by_type : (name : List ℕ) (value : Option (List ℕ)) (n : Node) (beyond : Bool) → beyond ≡ nat_lt MOST_ATTRIBUTES (length (changed_attr roles.Type (codes "type") value n).attrs) → true ≡ is_type_role (role_of name) → beyond ≡ nat_lt MOST_ATTRIBUTES (length (changed_attr (role_of name) name value n).attrs)
beyond_by_type name value n beyond is typed = is ∙ ap (λ (x : List ℕ). nat_lt MOST_ATTRIBUTES (length (changed_attr (role_of x) x value n).attrs)) (sym (role_type name (sym typed)))

pub beyond_by_other : (name : List ℕ) (value : Option (List ℕ)) (n : Node) (count : ℕ) → count ≡ length (attrs_with n.attrs name value) → false ≡ is_type_role (role_of name) → nat_lt MOST_ATTRIBUTES count ≡ nat_lt MOST_ATTRIBUTES (length (changed_attr (role_of name) name value n).attrs)
beyond_by_other name value n count is other = ap (nat_lt MOST_ATTRIBUTES) (is ∙ ap (λ (xs : Attrs). length xs) (sym (other_attrs (role_of name) name value n (sym other))))
