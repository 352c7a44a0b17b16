-- The laws that other crates build on.
use Rattle.std.proofs.Common.{◌≡◌, Bool, true, false, not, ◌&&◌, ◌||◌, cond, List, [], ◌∷◌, ◌++◌, map, find, ℕ, Option, Some, None, IsPermutation, refl, ap, ap₂, ◌∙◌, subst, sym}
use Rattle.std.specs.List.{list_any}
use Rattle.std.specs.Option.{option_map}
use Rattle.std.proofs.lemmas.List.{map-append}
use Rattle.std.proofs.lemmas.List.Sorted.{list_any-IsPermutation}
use Rattle.form_tree.specs.declared.node.Key.{Key}
use Rattle.form_tree.specs.Tree.{Nodes}
use Rattle.form_tree.specs.Elements.{is_empty_text, passes, same_key}
use Rattle.form_tree.specs.Ownership.{owner_of}
use Rattle.form_tree.specs.RadioGroup.{is_group_missing, is_radio, name_of, radio_group, share_group}
use Rattle.form_tree.proofs.Laws.{key_same}
use Rattle.form_groups.specs.declared.group.Member.{Member}
use Rattle.form_groups.specs.Groups.{ChangesGroup, Entries, chosen_of, entered, group_of, is_missing, keys_of, member_of, same_group}
use Rattle.form_groups.proofs.Entries.{same-refl}
pub use Rattle.form_groups.proofs.Entries.{same_parts, same-refl, other-sym}
pub use Rattle.form_groups.proofs.Members.{keys-marked, keys-without}

-- ---- one change, and the other groups

pub others_members : (old new : Entries) (owner : Option Key) (name : List ℕ) (change : List Member → List Member) → ChangesGroup old new owner name change
    → (o : Option Key) (n : List ℕ) → same_group owner name o n ≡ false → keys_of (group_of new o n) ≡ keys_of (group_of old o n)
others_members old new owner name change changes o n other = ap keys_of (changes.others o n other)

pub keys-entered : (m : Member) (ms : List Member) → keys_of (entered m ms) ≡ keys_of ms ++ m.key ∷ []
keys-entered m ms = map-append (λ (x : Member). x.key) ms (m ∷ [])

-- ---- chosen

-- none is chosen exactly where none is checked
pub chosen_none : (ms : List Member) → chosen_of ms ≡ None → list_any (λ m. m.checked) ms ≡ false
chosen_none [] none = refl
chosen_none (m ∷ ms) none = go m.checked none (chosen_none ms)
  where
    go : (b : Bool) → option_map (λ (x : Member). x.key) (cond b (Some m) (find (λ (x : Member). x.checked) ms)) ≡ None → (chosen_of ms ≡ None → list_any (λ (x : Member). x.checked) ms ≡ false) → (b || list_any (λ (x : Member). x.checked) ms) ≡ false
    go true e rest = absurd (cc)
    go false e rest = rest e

pub none_chosen : (ms : List Member) → list_any (λ m. m.checked) ms ≡ false → chosen_of ms ≡ None
none_chosen [] none = refl
none_chosen (m ∷ ms) none = go m.checked none (none_chosen ms)
  where
    go : (b : Bool) → (b || list_any (λ (x : Member). x.checked) ms) ≡ false → (list_any (λ (x : Member). x.checked) ms ≡ false → chosen_of ms ≡ None) → option_map (λ (x : Member). x.key) (cond b (Some m) (find (λ (x : Member). x.checked) ms)) ≡ None
    go true e rest = absurd (cc)
    go false e rest = rest e

-- ---- missing

any-map : {X Y : Type 0} (p : Y → Bool) (f : X → Y) (xs : List X) → list_any p (map f xs) ≡ list_any (λ x. p (f x)) xs
any-map p f [] = refl
any-map p f (x ∷ xs) = ap (λ b. p (f x) || b) (any-map p f xs)

-- where the members are a tree's radio button group, it is missing as that group is
pub missing_of_tree : (ns : Nodes) (k : Key) → is_missing (map member_of (radio_group ns k)) ≡ is_group_missing ns k
missing_of_tree ns k =
    ap₂ (λ a b. a && not b) (any-map (λ (m : Member). m.required) member_of (radio_group ns k)) (any-map (λ (m : Member). m.checked) member_of (radio_group ns k))

-- the order of entering does not matter to it
pub missing_permuted : (ms others : List Member) → IsPermutation ms others → is_missing ms ≡ is_missing others
missing_permuted ms others moved =
    ap₂ (λ a b. a && not b) (list_any-IsPermutation (λ (m : Member). m.required) ms others moved) (list_any-IsPermutation (λ (m : Member). m.checked) ms others moved)

-- nor, so, where they are the tree's group in another order
pub missing_of_members : (ms : List Member) (ns : Nodes) (k : Key) → IsPermutation ms (map member_of (radio_group ns k)) → is_missing ms ≡ is_group_missing ns k
missing_of_members ms ns k moved = missing_permuted ms _ moved ∙ missing_of_tree ns k

-- ---- a tree's groups by owner and name

-- The group of a radio button that has a name: the radio buttons of the same owner and name.
pub group_by_name : (ns : Nodes) (k j : Key) → passes is_radio ns k ≡ true → is_empty_text (name_of ns k) ≡ false
    → share_group ns k j ≡ (passes is_radio ns j && same_group (owner_of ns k) (name_of ns k) (owner_of ns j) (name_of ns j))
group_by_name ns k j radio named = rw (radio, named) (go (same_key k j) refl)
  where
    alike : Bool
    alike = same_group (owner_of ns k) (name_of ns k) (owner_of ns j) (name_of ns j)

    go : (b : Bool) → same_key k j ≡ b → (passes is_radio ns j && (b || alike)) ≡ (passes is_radio ns j && alike)
    go true e = ap (λ c. passes is_radio ns j && c) (subst (λ (i : Key). true ≡ same_group (owner_of ns k) (name_of ns k) (owner_of ns i) (name_of ns i)) (key_same k j e) (sym (same-refl (owner_of ns k) (name_of ns k))))
    go false e = refl
