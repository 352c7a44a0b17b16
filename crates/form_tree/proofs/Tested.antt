-- Tests that compute on a literal list, for who makes raws, with what they tell.
use Rattle.std.proofs.Common.{◌≡◌, ◌≢◌, ℕ, zero, suc, ◌<◌, ◌≤◌, Bool, true, false, not, ◌&&◌, ◌||◌, List, [], ◌∷◌, length, map, Option, Some, None, inl, inr, refl, sym, ap, ◌∙◌, arith, ltb, leb}
use Rattle.std.specs.List.{All, AllPairs, list_all, slice_get}
use Rattle.std.specs.Str.{bytes_eq}
use Rattle.std.proofs.lemmas.Bool.{and_parts, cases_lt, not-true, ltb-true, leb-true, lt-ltb}
use Rattle.std.proofs.lemmas.Bool.Decides.{not_from_Decides}
use Rattle.std.proofs.lemmas.List.Elements.{All-nil, All-cons}
use Rattle.std.proofs.lemmas.List.Kept.{AllPairs-cons}
use Rattle.std.proofs.lemmas.Option.{slice_get_within}
use Rattle.std.proofs.lemmas.Slice.Eq.{bytes_eq-Decides}
use Rattle.form_tree.specs.declared.node.Raw.{Raw}
use Rattle.form_tree.specs.Tree.{IsInTreeOrder, IsTreeOfRaws, NamesDiffer}

-- the test passes at each number below n
abbrev pub all_below : ℕ → (ℕ → Bool) → Bool
all_below zero test = true
all_below (suc n) test = test n && all_below n test

below : (n : ℕ) (test : ℕ → Bool) (k : ℕ) → all_below n test ≡ true → k < n → test k ≡ true
below zero test k passes less = absurd (omega arith)
below (suc n) test k passes less = elim (cases_lt k n) [
  | inl lower ↦ below n test k (and_parts (test n) (all_below n test) passes).1 lower
  | inr last ↦ let here : k ≡ n = omega arith in ap test here ∙ (and_parts (test n) (all_below n test) passes).0
]

-- the place of a parent is there, at p or behind it
abbrev pub is_from : ℕ → Option (Option ℕ) → Bool
is_from p None = false
is_from p (Some None) = false
is_from p (Some (Some q)) = leb p q

-- the node at place i stands behind its parent, with no gap
abbrev pub is_placed : List (Option ℕ) → ℕ → Option (Option ℕ) → Bool
is_placed parents i None = true
is_placed parents i (Some None) = true
is_placed parents i (Some (Some p)) = ltb p i && all_below i (λ k. not (ltb p k) || is_from p (slice_get parents k))

abbrev pub is_in_tree_order : List (Option ℕ) → Bool
is_in_tree_order parents = all_below (length parents) (λ i. is_placed parents i (slice_get parents i))

placed_at : (parents : List (Option ℕ)) (i p : ℕ) → is_in_tree_order parents ≡ true → slice_get parents i ≡ Some (Some p) → is_placed parents i (Some (Some p)) ≡ true
placed_at parents i p passes at = ap (is_placed parents i) (sym at) ∙ below (length parents) (λ i. is_placed parents i (slice_get parents i)) i passes (slice_get_within parents i (Some p) at)

found_from : (p : ℕ) (o : Option (Option ℕ)) → is_from p o ≡ true → (q : ℕ) × (p ≤ q) × (o ≡ Some (Some q))
found_from p None passes = cc
found_from p (Some None) passes = cc
found_from p (Some (Some q)) passes = (q, leb-true p q passes, refl)

-- what the test passes is in tree order
pub in_tree_order : (parents : List (Option ℕ)) → is_in_tree_order parents ≡ true → IsInTreeOrder parents
in_tree_order parents passes = record {
  before = λ i p at. ltb-true p i (and_parts (ltb p i) _ (placed_at parents i p passes at)).0;
  no_gap = λ i p between at behind before.
      let each = below i (λ k. not (ltb p k) || is_from p (slice_get parents k)) between (and_parts (ltb p i) _ (placed_at parents i p passes at)).1 before in
      found_from p (slice_get parents between) (rw (lt-ltb p between behind) at each);
}

-- no two names are one
abbrev pub are_apart : List (List ℕ) → Bool
are_apart [] = true
are_apart (name ∷ names) = list_all (λ other. not (bytes_eq name other)) names && are_apart names

abbrev pub do_names_differ : List (List ℕ × List ℕ) → Bool
do_names_differ attrs = are_apart (map (λ attr. attr.0) attrs)

others : (name : List ℕ) (names : List (List ℕ)) → list_all (λ other. not (bytes_eq name other)) names ≡ true → All (λ other. name ≢ other) names
others name [] passes = All-nil (λ other. name ≢ other)
others name (first ∷ names) passes =
    let parts = and_parts (not (bytes_eq name first)) _ passes in
    All-cons (λ other. name ≢ other) first names (not_from_Decides (bytes_eq name first) (bytes_eq-Decides name first) (not-true _ parts.0)) (others name names parts.1)

apart : (names : List (List ℕ)) → are_apart names ≡ true → AllPairs (λ a b. a ≢ b) names
apart [] passes = λ i j d lower less. absurd (omega arith)
apart (name ∷ names) passes =
    let parts = and_parts (list_all (λ other. not (bytes_eq name other)) names) (are_apart names) passes in
    AllPairs-cons (λ a b. a ≢ b) name names (others name names parts.0) (apart names parts.1)

-- where the test passes, the names differ
pub names_differ : (attrs : List (List ℕ × List ℕ)) → do_names_differ attrs ≡ true → NamesDiffer attrs
names_differ attrs passes = apart (map (λ attr. attr.0) attrs) passes

-- both tests of a list of raws
abbrev pub are_tree_of_raws : List Raw → Bool
are_tree_of_raws raws = is_in_tree_order (map (λ raw. raw.parent) raws) && list_all (λ raw. do_names_differ raw.attrs) raws

all_names : (raws : List Raw) → list_all (λ (raw : Raw). do_names_differ raw.attrs) raws ≡ true → All (λ (raw : Raw). NamesDiffer raw.attrs) raws
all_names [] passes = All-nil (λ (raw : Raw). NamesDiffer raw.attrs)
all_names (raw ∷ raws) passes =
    let parts = and_parts (do_names_differ raw.attrs) _ passes in
    All-cons (λ (raw : Raw). NamesDiffer raw.attrs) raw raws (names_differ raw.attrs parts.0) (all_names raws parts.1)

-- where they pass, the raws are a tree
pub tree_of_raws_tested : (raws : List Raw) → are_tree_of_raws raws ≡ true → IsTreeOfRaws raws
tree_of_raws_tested raws passes =
    let parts = and_parts (is_in_tree_order (map (λ (raw : Raw). raw.parent) raws)) _ passes in
    record { in_order = in_tree_order _ parts.0; names = all_names raws parts.1 }
