-- What stands above an element, one step at a time.
use Rattle.std.proofs.Common.{add-one, ◌≡◌, ◌≢◌, ℕ, zero, suc, ◌+◌, ◌-◌, ◌<◌, ◌≤◌, Bool, true, false, ◌||◌, List, [], ◌∷◌, ◌++◌, length, map, get_or, cond, take, drop, length-drop, Option, Some, None, IsSome, IfSome, inl, inr, refl, sym, ap, ◌∙◌, subst, arith, append_assoc, eqb}
use Rattle.std.specs.Prelude.{reverse, is_some}
use Rattle.std.specs.List.{find, list_any, position_or_len, slice_get}
use Rattle.std.specs.Option.{option_map, option_map_or, option_and_then}
use Rattle.std.proofs.lemmas.Bool.{cases_order, eqb-true, false_from_ne_true, or_parts}
use Rattle.std.proofs.lemmas.Bool.Decides.{nat_tests}
use Rattle.std.proofs.lemmas.List.{reverse-append, get_or-drop, get_or-map, length-map, length-reverse}
use Rattle.std.proofs.lemmas.List.Sums.{position_or_len_is}
use Rattle.std.proofs.lemmas.List.Folds.{list_any-append}
use Rattle.std.proofs.lemmas.List.Quantifiers.{position-Some}
use Rattle.std.proofs.lemmas.Option.{none-some, same_Some, slice_get-map, slice_get-get_or, slice_get_within, get_or_from_slice_get}
use Rattle.form_tree.specs.declared.node.Key.{Key}
use Rattle.form_tree.specs.declared.node.Node.{Node}
use Rattle.form_tree.specs.declared.node.Tag.{Tag}
use Rattle.form_tree.specs.Disabling.{disables_through, disabling_above, disabling_count}
use Rattle.form_tree.specs.Elements.{has_attr, is_form, passes}
use Rattle.form_tree.specs.Ownership.{above, ancestors, nearest_form}
use Rattle.form_tree.specs.Tree.{Nodes, IsTree, at_key, attr_in, attr_of, is_key, key_at, parent_of, parent_places, place_in, place_of, shape_of}
use Rattle.form_tree.proofs.Keys.{found_key}
use Rattle.form_tree.proofs.Places.{at_key_place, keys_apart, placed_below, place_in_shape}

-- elements with other keys are passed over
skip : (xs ys : Nodes) (k : Key) → list_any (is_key k) xs ≡ false → above (xs ++ ys) (Some k) ≡ above ys (Some k)
skip [] ys k none = refl
skip (x ∷ xs) ys k none = let parts = or_parts (is_key k x) (list_any (is_key k) xs) none in rw (parts.0, skip xs ys k parts.1) refl

pub above_top : (ns : Nodes) → above ns None ≡ []
above_top [] = refl
above_top (n ∷ ns) = refl

any-reverse : (p : Node → Bool) (xs : Nodes) → list_any p xs ≡ false → list_any p (reverse xs) ≡ false
any-reverse p [] none = refl
any-reverse p (x ∷ xs) none =
    let parts = or_parts (p x) (list_any p xs) none in
    rw (reverse-append (x ∷ []) xs, list_any-append p (reverse xs) (x ∷ []), any-reverse p xs parts.1, parts.0) refl

none_from_places : (p : Node → Bool) (xs : Nodes) → ((j : ℕ) (d : Node) → j < length xs → p (get_or xs j d) ≡ false) → list_any p xs ≡ false
none_from_places p [] none = refl
none_from_places p (x ∷ xs) none = rw (none 0 x (omega arith), none_from_places p xs (λ j d lt. none (suc j) d (omega arith))) refl

-- the elements behind have other keys, and so have the parent and the element
above_parts : (front back : Nodes) (n : Node) (k : Key) → is_key k n ≡ true → list_any (is_key k) back ≡ false → ((p : Key) → n.parent ≡ Some p → (is_key p n ≡ false) × (list_any (is_key p) back ≡ false)) → above (reverse (front ++ n ∷ back)) (Some k) ≡ n ∷ above (reverse (front ++ n ∷ back)) n.parent
above_parts front back n k here others parents =
    let turned : reverse (front ++ n ∷ back) ≡ reverse back ++ (n ∷ reverse front) = rw (reverse-append front (n ∷ back), reverse-append (n ∷ []) back, append_assoc) refl in
    rw (turned, skip (reverse back) (n ∷ reverse front) k (any-reverse (is_key k) back others), here) (ap (λ xs. n ∷ xs) (up n.parent refl))
  where
    up : (q : Option Key) → n.parent ≡ q → above (reverse front) q ≡ above (reverse back ++ (n ∷ reverse front)) q
    up None e = above_top (reverse front) ∙ sym (above_top (reverse back ++ (n ∷ reverse front)))
    up (Some p) e = rw (skip (reverse back) (n ∷ reverse front) p (any-reverse (is_key p) back (parents p e).1), (parents p e).0) refl

-- where an element was found
record Split (p : Node → Bool) (xs : Nodes) (n : Node) : Type 0 where
  at : ℕ
  below : at < length xs
  parts : xs ≡ take at xs ++ n ∷ drop (suc at) xs
  hit : p n ≡ true
  read : (d : Node) → get_or xs at d ≡ n

found_split : (p : Node → Bool) (xs : Nodes) (n : Node) → find p xs ≡ Some n → Split p xs n
found_split p [] n found = absurd (none-some n found)
found_split p (x ∷ xs) n found = go (found_split p xs n) (p x) refl found
  where
    go : (find p xs ≡ Some n → Split p xs n) → (b : Bool) → p x ≡ b → cond b (Some x) (find p xs) ≡ Some n → Split p (x ∷ xs) n
    go more true e h = let same = same_Some x n h in record { at = 0; below = omega arith; parts = ap (λ y. y ∷ xs) same; hit = rw (← same) e; read = λ d. same }
    go more false e h = let rest = more h in record { at = suc rest.at; below = omega (arith, rest.below); parts = ap (λ ys. x ∷ ys) rest.parts; hit = rest.hit; read = rest.read }

-- an element in the shape
abbrev pair : Node → Key × Option Key
pair n = (n.key, n.parent)

module _ (ns : Nodes) (tree : IsTree ns) where
  -- a key that stands at one place stands at no other
  elsewhere : (p : Key) (j m : ℕ) (d : Node) → j < length ns → m < length ns → j ≢ m → (get_or ns j d).key ≡ p → is_key p (get_or ns m d) ≡ false
  elsewhere p j m d in_j in_m apart here = false_from_ne_true _ (λ also.
      let two : p.0 ≡ (get_or ns m d).key.0 = eqb-true _ _ also in
      let same : (get_or ns j d).key ≡ (get_or ns m d).key = here ∙ ap (λ (number : ℕ). record { 0 = number }) two in
      elim (cases_order j m) [
        | inl e ↦ apart e
        | inr order ↦ elim order [
          | inl lower ↦ keys_apart ns tree.shape j m d lower in_m same
          | inr higher ↦ keys_apart ns tree.shape m j d higher in_j (sym same)
        ]
      ])

  behind : (p : Key) (j at : ℕ) → j ≤ at → at < length ns → ((d : Node) → (get_or ns j d).key ≡ p) → list_any (is_key p) (drop (suc at) ns) ≡ false
  behind p j at before in_at here =
      let long : length (drop (suc at) ns) ≡ length ns - suc at = length-drop (suc at) ns in
      none_from_places (is_key p) (drop (suc at) ns) (λ m d lt.
      let in_m : suc at + m < length ns = omega (arith, long) in
      rw get_or-drop (elsewhere p j (suc at + m) d (omega arith) in_m (λ e. omega arith) (here d)))

  shape_at : (at : ℕ) (d : Node) → at < length ns → slice_get (shape_of ns) at ≡ Some (pair (get_or ns at d))
  shape_at at d in_at = slice_get-map pair ns at ∙ ap (option_map pair) (slice_get-get_or ns at d in_at)

  -- the place of a parent
  parent_place : (at : ℕ) (d : Node) (p : Key) → at < length ns → (get_or ns at d).parent ≡ Some p → (j : ℕ) × (j < at) × (place_of ns p ≡ Some j)
  parent_place at d p in_at has = go (place_in (shape_of ns) p) refl there
    where
      there : IsSome (place_in (shape_of ns) p)
      there =
          let within : at < length (shape_of ns) = rw (length-map ns pair) in_at in
          let entry : (get_or (shape_of ns) at (pair d)).1 ≡ Some p = ap (λ (e : Key × Option Key). e.1) (get_or-map pair ns at d (pair d) in_at) ∙ has in
          subst (λ (o : Option Key). IfSome o (λ k. IsSome (place_in (shape_of ns) k))) entry (tree.shape.parents_there at (pair d) within)

      go : (o : Option ℕ) → place_in (shape_of ns) p ≡ o → IsSome o → (j : ℕ) × (j < at) × (place_of ns p ≡ Some j)
      go None e none = absurd (cc)
      go (Some j) e some =
          let placed : slice_get (parent_places (shape_of ns)) at ≡ Some (Some j) =
          slice_get-map (λ (entry : Key × Option Key). option_and_then (place_in (shape_of ns)) entry.1) (shape_of ns) at
          ∙ ap (option_map (λ (entry : Key × Option Key). option_and_then (place_in (shape_of ns)) entry.1)) (shape_at at d in_at)
          ∙ ap (λ (o : Option Key). Some (option_and_then (place_in (shape_of ns)) o)) has
          ∙ ap (λ (o : Option ℕ). Some o) e in
          (j, tree.shape.in_order.before at j placed, sym (place_in_shape ns p) ∙ e)

  -- from an element one goes up to its parent
  pub above_step : (k : Key) (n : Node) → at_key ns k ≡ Some n → above (reverse ns) (Some k) ≡ n ∷ above (reverse ns) n.parent
  above_step k n found =
      let s = found_split (is_key k) ns n found in
      let key : (d : Node) → (get_or ns s.at d).key ≡ k = λ d. ap (λ (m : Node). m.key) (s.read d) ∙ found_key ns k n found in
      let turned = above_parts (take s.at ns) (drop (suc s.at) ns) n k s.hit (behind k s.at s.at (omega arith) s.below key) (λ p has.
      let up = parent_place s.at n p s.below (ap (λ (m : Node). m.parent) (s.read n) ∙ has) in
      let at_p = found_at p up.0 up.2 in (
        subst (λ (m : Node). is_key p m ≡ false) (s.read n) (elsewhere p up.0 s.at n (at_p n).0 s.below (λ e. apart up.0 s.at up.1 e) (at_p n).1),
        behind p up.0 s.at (lower up.0 s.at up.1) s.below (λ d. (at_p d).1),
      )) in
      subst (λ (xs : Nodes). above (reverse xs) (Some k) ≡ n ∷ above (reverse xs) n.parent) (sym s.parts) turned
    where
      apart : (i j : ℕ) → i < j → i ≡ j → ⊥
      apart i j lt e = omega arith

      lower : (i j : ℕ) → i < j → i ≤ j
      lower i j lt = omega arith

      found_at : (p : Key) (j : ℕ) → place_of ns p ≡ Some j → (d : Node) → (j < length ns) × ((get_or ns j d).key ≡ p)
      found_at p j placed d =
          let met = position-Some (is_key p) ns j d placed in
          let same : p.0 ≡ (get_or ns j d).key.0 = eqb-true _ _ met.1 in
          (met.0, ap (λ (number : ℕ). record { 0 = number }) (sym same))

  -- the ancestors of an element are its parent and the parent's ancestors
  pub ancestors_step : (k p : Key) (m : Node) → parent_of ns k ≡ Some p → at_key ns p ≡ Some m → ancestors ns k ≡ m ∷ ancestors ns p
  ancestors_step k p m up found =
      ap (above (reverse ns)) up ∙ above_step p m found
      ∙ ap (λ (o : Option Key). m ∷ above (reverse ns) o) (sym (ap (option_and_then (λ (n : Node). n.parent)) found))

  pub ancestors_top : (k : Key) → parent_of ns k ≡ None → ancestors ns k ≡ []
  ancestors_top k up = ap (above (reverse ns)) up ∙ above_top (reverse ns)

  -- the nearest form is the parent, or the parent's nearest form
  pub nearest_form_step : (k p : Key) (m : Node) → parent_of ns k ≡ Some p → at_key ns p ≡ Some m → nearest_form ns k ≡ cond (is_form m) (Some p) (nearest_form ns p)
  nearest_form_step k p m up found = rw (ancestors_step k p m up found) (go (is_form m) (find is_form (ancestors ns p)))
    where
      go : (b : Bool) (o : Option Node) → option_map (λ (n : Node). n.key) (cond b (Some m) o) ≡ cond b (Some p) (option_map (λ (n : Node). n.key) o)
      go true o = ap (λ (q : Key). Some q) (found_key ns p m found)
      go false o = refl

  -- what disables an element is its parent, and what disables the parent
  pub disabling_step : (k p : Key) (m : Node) → parent_of ns k ≡ Some p → at_key ns p ≡ Some m → disabling_count ns k ≡ cond (disables_through ns k m) 1 0 + disabling_count ns p
  disabling_step k p m up found =
      ap (disabling_above ns k) (ancestors_step k p m up found)
      ∙ ap (λ (q : Key). cond (disables_through ns k m) 1 0 + disabling_above ns q (ancestors ns p)) (found_key ns p m found)

  pub nearest_form_top : (k : Key) → parent_of ns k ≡ None → nearest_form ns k ≡ None
  nearest_form_top k up = ap (λ (up : Nodes). option_map (λ (n : Node). n.key) (find is_form up)) (ancestors_top k up)

  pub disabling_top : (k : Key) → parent_of ns k ≡ None → disabling_count ns k ≡ 0
  disabling_top k up = ap (disabling_above ns k) (ancestors_top k up)

  -- an element is found by its own key
  pub at_place : (i : ℕ) (n : Node) → slice_get ns i ≡ Some n → (at_key ns n.key ≡ Some n) × (place_of ns n.key ≡ Some i)
  at_place i n given = (at_key_place ns n.key ∙ ap (option_and_then (slice_get ns)) placed ∙ given, placed)
    where
      below : i < length ns
      below = slice_get_within ns i n given

      here : (get_or ns i n).key ≡ n.key
      here = ap (λ (m : Node). m.key) (get_or_from_slice_get ns i n n given)

      hit : is_key n.key (get_or ns i n) ≡ true
      hit = rw here (grind (arith, nat_tests))

      first : position_or_len (is_key n.key) ns ≡ i
      first = position_or_len_is (is_key n.key) ns i n (omega (arith, below)) (λ j lt. elsewhere n.key i j n below (omega (arith, below)) (λ e. omega arith) here) (λ _. hit)

      placed : place_of ns n.key ≡ Some i
      placed = rw first (grind (arith, nat_tests, below))

  -- the parent of the element at a place stands before it
  pub parent_before : (i : ℕ) (n : Node) (p : Key) → slice_get ns i ≡ Some n → n.parent ≡ Some p → (j : ℕ) × (j < i) × (place_of ns p ≡ Some j)
  parent_before i n p given up = parent_place i n p (slice_get_within ns i n given) (ap (λ (m : Node). m.parent) (get_or_from_slice_get ns i n n given) ∙ up)

  -- an element's parent is there
  pub parent_there : (k p : Key) → parent_of ns k ≡ Some p → (m : Node) × (at_key ns p ≡ Some m)
  parent_there k p up = go (at_key ns k) refl up
    where
      at : (j : ℕ) → place_of ns p ≡ Some j → (m : Node) × (at_key ns p ≡ Some m)
      at j placed =
          found (slice_get ns j) refl
        where
          found : (o : Option Node) → slice_get ns j ≡ o → (m : Node) × (at_key ns p ≡ Some m)
          found None e = absurd (past ns j (placed_below ns p j placed) e)
            where
              past : (xs : Nodes) (i : ℕ) → i < length xs → slice_get xs i ≡ None → ⊥
              past [] i lt e = omega arith
              past (x ∷ xs) zero lt e = none-some x (sym e)
              past (x ∷ xs) (suc i) lt e = past xs i (omega arith) e
          found (Some m) e = (m, at_key_place ns p ∙ ap (option_and_then (slice_get ns)) placed ∙ e)

      go : (o : Option Node) → at_key ns k ≡ o → option_and_then (λ (n : Node). n.parent) o ≡ Some p → (m : Node) × (at_key ns p ≡ Some m)
      go None e h = absurd (none-some p h)
      go (Some n) e h =
          let s = found_split (is_key k) ns n e in
          let up = parent_place s.at n p s.below (ap (λ (m : Node). m.parent) (s.read n) ∙ h) in
          at up.0 up.2

-- ---- how many

above_short : (ns : Nodes) (up : Option Key) → length (above ns up) ≤ length ns
above_short [] up = omega arith
above_short (n ∷ ns) None = omega arith
above_short (n ∷ ns) (Some k) = go (above_short ns n.parent) (above_short ns (Some k)) (is_key k n)
  where
    go : length (above ns n.parent) ≤ length ns → length (above ns (Some k)) ≤ length ns → (b : Bool) → length (cond b (n ∷ above ns n.parent) (above ns (Some k))) ≤ suc (length ns)
    go up past true = omega (arith, up)
    go up past false = omega (arith, past)

disabling_few : (ns : Nodes) (k : Key) (up : Nodes) → disabling_above ns k up ≤ length up
disabling_few ns k [] = omega arith
disabling_few ns k (f ∷ up) = let rest = disabling_few ns f.key up in go (disables_through ns k f) rest
  where
    go : (b : Bool) → disabling_above ns f.key up ≤ length up → cond b 1 0 + disabling_above ns f.key up ≤ suc (length up)
    go true rest = omega (arith, rest)
    go false rest = omega (arith, rest)

-- no more fieldsets disable an element than there are elements
pub disabling_bounded : (ns : Nodes) (k : Key) → disabling_count ns k ≤ length ns
disabling_bounded ns k =
    let few = disabling_few ns k (ancestors ns k) in
    let short = above_short (reverse ns) (parent_of ns k) in
    let long = length-reverse ns in
    omega (arith, few, short, long)

-- ---- what was read of an element

-- a test of its tag
pub tag_passes : (test : Tag → Bool) (o : Option Node) (tag : Tag) → Some tag ≡ option_map (λ (n : Node). n.tag) o → test tag ≡ option_map_or (λ (n : Node). test n.tag) o false
tag_passes test None tag told = absurd (none-some tag (sym told))
tag_passes test (Some n) tag told = ap test (same_Some tag n.tag told)

pub tag_absent : (test : Tag → Bool) (o : Option Node) → None ≡ option_map (λ (n : Node). n.tag) o → false ≡ option_map_or (λ (n : Node). test n.tag) o false
tag_absent test None told = refl
tag_absent test (Some n) told = absurd (none-some n.tag told)

-- whether it has an attribute
pub attr_passes : (ns : Nodes) (k : Key) (name : List ℕ) → is_some (attr_of ns k name) ≡ passes (has_attr name) ns k
attr_passes ns k name = go (at_key ns k)
  where
    go : (o : Option Node) → is_some (option_and_then (λ attrs. attr_in attrs name) (option_map (λ (n : Node). n.attrs) o)) ≡ option_map_or (has_attr name) o false
    go None = refl
    go (Some n) = refl

-- the element at a place, by its key
pub key_found : (ns : Nodes) (i : ℕ) (k : Key) → Some k ≡ key_at ns i → (n : Node) × (slice_get ns i ≡ Some n) × (n.key ≡ k)
key_found ns i k told = go (slice_get ns i) refl told
  where
    go : (o : Option Node) → slice_get ns i ≡ o → Some k ≡ option_map (λ (n : Node). n.key) o → (n : Node) × (slice_get ns i ≡ Some n) × (n.key ≡ k)
    go None e h = absurd (none-some k (sym h))
    go (Some n) e h = (n, e, sym (same_Some k n.key h))

-- a place within holds a key
pub key_there : (ns : Nodes) (i : ℕ) → i < length ns → None ≡ key_at ns i → ⊥
key_there ns i below none =
    go (slice_get ns i) refl none
  where
    go : (o : Option Node) → slice_get ns i ≡ o → None ≡ option_map (λ (n : Node). n.key) o → ⊥
    go None e h = absent i ns below e
      where
        absent : (j : ℕ) (xs : Nodes) → j < length xs → slice_get xs j ≡ None → ⊥
        absent j [] lt e = omega arith
        absent zero (x ∷ xs) lt e = none-some x (sym e)
        absent (suc j) (x ∷ xs) lt e = absent j xs (omega arith) e
    go (Some n) e h = none-some n.key h

-- ---- a search along the places

-- what is found from a place on is what stands there, or what is found behind it
pub find_step : (ns : Nodes) → IsTree ns → (test : Node → Bool) (i : ℕ) (k : Key) → Some k ≡ key_at ns i → find test (drop i ns) ≡ cond (passes test ns k) (at_key ns k) (find test (drop (i + 1) ns))
find_step ns tree test i k told =
    let met = key_found ns i k told in
    let found : at_key ns k ≡ Some met.0 = subst (λ (q : Key). at_key ns q ≡ Some met.0) met.2 (at_place ns tree i met.0 met.1).0 in
    rw (add-one, front ns i met.0 met.1, found) refl
  where
    front : (xs : Nodes) (j : ℕ) (n : Node) → slice_get xs j ≡ Some n → drop j xs ≡ n ∷ drop (suc j) xs
    front [] j n e = absurd (none-some n e)
    front (x ∷ xs) zero n e = ap (λ (y : Node). y ∷ xs) (same_Some x n e)
    front (x ∷ xs) (suc j) n e = front xs j n e
