-- Radio button groups and selects group elements by what they are.
use Rattle.std.proofs.Common.{◌≡◌, ℕ, Bool, true, false, not, ◌&&◌, ◌||◌, List, Option, Some, None, inl, inr, refl, sym, ap, ◌∙◌, subst}
use Rattle.std.specs.Option.{option_map_or}
use Rattle.std.specs.Str.{bytes_eq}
use Rattle.std.proofs.lemmas.Bool.{and_parts, and_from, or_cases, or_left, or_right}
use Rattle.std.proofs.lemmas.Slice.Eq.{bytes_eq-Decides}
use Rattle.form_tree.specs.declared.node.Key.{Key}
use Rattle.form_tree.specs.Tree.{Nodes}
use Rattle.form_tree.specs.Elements.{is_empty_text, passes, same_key, same_owner}
use Rattle.form_tree.specs.Ownership.{owner_of}
use Rattle.form_tree.specs.RadioGroup.{is_radio, name_of, same_name, share_group}
use Rattle.form_tree.specs.Selects.{is_multiple, select_of, share_select}
use Rattle.form_tree.proofs.Keys.{key_same, same_key-refl, same_key-sym}

pub owner_same : (p q : Option Key) → same_owner p q ≡ true → p ≡ q
owner_same None None same = refl
owner_same None (Some k) same = cc
owner_same (Some j) None same = cc
owner_same (Some j) (Some k) same = ap (λ (i : Key). Some i) (key_same j k same)

pub name_same : (x y : List ℕ) → same_name x y ≡ true → x ≡ y
name_same x y same = (bytes_eq-Decides x y).0 (and_parts (not (is_empty_text x)) (bytes_eq x y) same).1

-- what makes two radio buttons share a group is the same from both sides

alike-sym : (j k : Key) (p q : Option Key) (x y : List ℕ) → (same_key j k || (same_owner p q && same_name x y)) ≡ true → (same_key k j || (same_owner q p && same_name y x)) ≡ true
alike-sym j k p q x y h = elim (or_cases (same_key j k) _ h) [
  | inl same ↦ or_left _ _ (same_key-sym k j ∙ same)
  | inr both ↦
      let parts = and_parts (same_owner p q) (same_name x y) both in
      let po = owner_same p q parts.0 in
      let pn = name_same x y parts.1 in
      or_right _ _ (and_from _ _ (subst (λ (o : Option Key). same_owner q o ≡ true) (sym po) (subst (λ (o : Option Key). same_owner o o ≡ true) po (subst (λ (o : Option Key). same_owner p o ≡ true) (sym po) parts.0)))
      (subst (λ (z : List ℕ). same_name y z ≡ true) (sym pn) (subst (λ (z : List ℕ). same_name z z ≡ true) pn (subst (λ (z : List ℕ). same_name x z ≡ true) (sym pn) parts.1))))
]

pub group-sym : (t : Nodes) (j k : Key) → share_group t j k ≡ true → share_group t k j ≡ true
group-sym t j k h =
    let parts = and_parts (passes is_radio t j && passes is_radio t k) _ h in
    let radios = and_parts (passes is_radio t j) (passes is_radio t k) parts.0 in
    and_from _ _ (and_from _ _ radios.1 radios.0) (alike-sym j k (owner_of t j) (owner_of t k) (name_of t j) (name_of t k) parts.1)

-- two members of a group share it
pub group_together : (t : Nodes) (a j k : Key) → share_group t a j ≡ true → share_group t a k ≡ true → share_group t j k ≡ true
group_together t a j k hj hk =
    let pj = and_parts (passes is_radio t a && passes is_radio t j) _ hj in
    let pk = and_parts (passes is_radio t a && passes is_radio t k) _ hk in
    let rj = and_parts (passes is_radio t a) (passes is_radio t j) pj.0 in
    let rk = and_parts (passes is_radio t a) (passes is_radio t k) pk.0 in
    elim (or_cases (same_key a j) _ pj.1) [
      | inl at ↦ subst (λ (i : Key). share_group t i k ≡ true) (key_same a j at) hk
      | inr alike_j ↦ elim (or_cases (same_key a k) _ pk.1) [
        | inl at ↦ subst (λ (i : Key). share_group t j i ≡ true) (key_same a k at) (group-sym t a j hj)
        | inr alike_k ↦
            let one = and_parts (same_owner (owner_of t a) (owner_of t j)) (same_name (name_of t a) (name_of t j)) alike_j in
            let two = and_parts (same_owner (owner_of t a) (owner_of t k)) (same_name (name_of t a) (name_of t k)) alike_k in
            and_from _ _ (and_from _ _ rj.1 rk.1) (or_right _ _ (and_from _ _
            (subst (λ (o : Option Key). same_owner o (owner_of t k) ≡ true) (owner_same (owner_of t a) (owner_of t j) one.0) two.0)
            (subst (λ (x : List ℕ). same_name x (name_of t k) ≡ true) (name_same (name_of t a) (name_of t j) one.1) two.1)))
      ]
    ]

-- whoever shares a group is in it
pub group_refl : (t : Nodes) (j k : Key) → share_group t j k ≡ true → share_group t j j ≡ true
group_refl t j k h =
    let parts = and_parts (passes is_radio t j && passes is_radio t k) _ h in
    let radio = (and_parts (passes is_radio t j) (passes is_radio t k) parts.0).0 in
    and_from _ _ (and_from _ _ radio radio) (or_left _ _ (same_key-refl j))

-- the select that two options share
pub select_shared : (t : Nodes) (j k : Key) → share_select t j k ≡ true → (s : Key) × (select_of t j ≡ Some s) × (select_of t k ≡ Some s) × (is_multiple t s ≡ false)
select_shared t j k h = go (select_of t j) refl (select_of t k) refl h
  where
    single : (b : Bool) → not b ≡ true → b ≡ false
    single true e = cc
    single false e = refl

    go : (o : Option Key) → select_of t j ≡ o → (p : Option Key) → select_of t k ≡ p → option_map_or (λ s. option_map_or (same_key s) p false && not (is_multiple t s)) o false ≡ true → (s : Key) × (select_of t j ≡ Some s) × (select_of t k ≡ Some s) × (is_multiple t s ≡ false)
    go None e p f g = absurd (cc)
    go (Some s) e None f g = absurd (cc)
    go (Some s) e (Some r) f g =
        let parts = and_parts (same_key s r) (not (is_multiple t s)) g in
        (s, e, f ∙ ap (λ (i : Key). Some i) (sym (key_same s r parts.0)), single _ parts.1)

pub shares_select : (t : Nodes) (j k s : Key) → select_of t j ≡ Some s → select_of t k ≡ Some s → is_multiple t s ≡ false → share_select t j k ≡ true
shares_select t j k s e f single = rw (e, f, same_key-refl s, single) refl

pub select-sym : (t : Nodes) (j k : Key) → share_select t j k ≡ true → share_select t k j ≡ true
select-sym t j k h = let both = select_shared t j k h in shares_select t k j both.0 both.2 both.1 both.3
