-- The options of a select stand behind it without a gap.
use Rattle.std.proofs.Common.{add-one, ◌≡◌, ℕ, zero, suc, ◌+◌, ◌<◌, ◌≤◌, Bool, true, false, cond, [], ◌∷◌, ◌++◌, length, drop, Option, Some, None, ◌⊎◌, inl, inr, refl, sym, ap, ◌∙◌, subst, arith, leb}
use Rattle.std.specs.List.{filter, slice_get}
use Rattle.std.specs.Option.{option_and_then, option_map, option_map_or}
use Rattle.std.proofs.lemmas.Bool.{cases_lt}
use Rattle.std.proofs.lemmas.Bool.Decides.{nat_tests}
use Rattle.std.proofs.lemmas.List.{drop_all}
use Rattle.std.proofs.lemmas.List.Quantifiers.{position-Some}
use Rattle.std.proofs.lemmas.Option.{none-some, same_Some, slice_get-map}
use Rattle.form_tree.specs.declared.node.Key.{Key}
use Rattle.form_tree.specs.declared.node.Node.{Node}
use Rattle.form_tree.specs.Elements.{is_optgroup, is_option, is_select, passes, same_key}
use Rattle.form_tree.specs.Selects.{is_option_of, options, select_above}
use Rattle.form_tree.specs.Tree.{Nodes, IsTree, at_key, is_key, key_at, parent_of, parent_places, place_in, place_of, shape_of}
use Rattle.form_tree.proofs.Laws.{at_key_place, at_place, key_found, key_same, parent_before, place_in_shape}
use Rattle.form_select.specs.Options.{as_list, options_at, options_from, parent_place}

-- ---- one place

-- the options from a place on are that at the place and those behind it
pub options_step : (ns : Nodes) (s : Key) (i : ℕ) → options_from ns s i ≡ options_at ns s i ++ options_from ns s (i + 1)
options_step ns s i = rw add-one (go ns i)
  where
    p : Node → Bool
    p n = is_option_of ns s n.key

    one : (x : Node) (xs : Nodes) (b : Bool) → cond b (x ∷ xs) xs ≡ cond b (x ∷ []) [] ++ xs
    one x xs true = refl
    one x xs false = refl

    go : (xs : Nodes) (j : ℕ) → filter p (drop j xs) ≡ option_map_or (λ n. cond (p n) (n ∷ []) []) (slice_get xs j) [] ++ filter p (drop (suc j) xs)
    go [] zero = refl
    go [] (suc j) = refl
    go (x ∷ xs) zero = one x (filter p xs) (p x)
    go (x ∷ xs) (suc j) = go xs j

-- what stands at a place, found by its key
pub option_there : (ns : Nodes) → IsTree ns → (s : Key) (i : ℕ) (k : Key) → Some k ≡ key_at ns i → options_at ns s i ≡ cond (is_option_of ns s k) (as_list (at_key ns k)) []
option_there ns tree s i k told =
    let met = key_found ns i k told in
    let found : at_key ns k ≡ Some met.0 = subst (λ (q : Key). at_key ns q ≡ Some met.0) met.2 (at_place ns tree i met.0 met.1).0 in
    rw (met.1, met.2, found) refl

pub none_there : (ns : Nodes) (s : Key) (i : ℕ) → None ≡ key_at ns i → options_at ns s i ≡ []
none_there ns s i told = go (slice_get ns i) told
  where
    go : (o : Option Node) → None ≡ option_map (λ (n : Node). n.key) o → option_map_or (λ n. cond (is_option_of ns s n.key) (n ∷ []) []) o [] ≡ []
    go None h = refl
    go (Some n) h = absurd (none-some n.key h)

-- the place of a parent, found by keys
pub parent_there : (ns : Nodes) → IsTree ns → (i : ℕ) (k : Key) → Some k ≡ key_at ns i → parent_place ns i ≡ option_and_then (place_of ns) (parent_of ns k)
parent_there ns tree i k told =
    let met = key_found ns i k told in
    let found : at_key ns k ≡ Some met.0 = subst (λ (q : Key). at_key ns q ≡ Some met.0) met.2 (at_place ns tree i met.0 met.1).0 in
    rw (met.1, found) refl

pub no_parent_there : (ns : Nodes) (i : ℕ) → None ≡ key_at ns i → None ≡ parent_place ns i
no_parent_there ns i told = go (slice_get ns i) told
  where
    go : (o : Option Node) → None ≡ option_map (λ (n : Node). n.key) o → None ≡ option_and_then (λ (n : Node). option_and_then (place_of ns) n.parent) o
    go None h = refl
    go (Some n) h = absurd (none-some n.key h)

-- ---- searches by place

past_none : (p : Node → Bool) (xs : Nodes) (i : ℕ) → ((m : ℕ) (n : Node) → slice_get xs m ≡ Some n → p n ≡ true → i ≤ m → ⊥) → filter p (drop i xs) ≡ []
past_none p [] zero never = refl
past_none p [] (suc i) never = refl
past_none p (x ∷ xs) zero never = go (past_none p xs 0 (λ m n at passes below. never (suc m) n at passes (omega arith))) (p x) refl
  where
    go : filter p xs ≡ [] → (b : Bool) → p x ≡ b → cond b (x ∷ filter p xs) (filter p xs) ≡ []
    go rest true e = absurd (never 0 x refl e (omega arith))
    go rest false e = rest
past_none p (x ∷ xs) (suc i) never = past_none p xs i (λ m n at passes below. never (suc m) n at passes (omega (arith, below)))

front_none : (p : Node → Bool) (xs : Nodes) (i : ℕ) → ((m : ℕ) (n : Node) → slice_get xs m ≡ Some n → p n ≡ true → i ≤ m) → filter p (drop i xs) ≡ filter p xs
front_none p xs zero behind = refl
front_none p [] (suc i) behind = refl
front_none p (x ∷ xs) (suc i) behind =
    front_none p xs i (λ m n at passes. let far = behind (suc m) n at passes in omega (arith, far)) ∙ go (p x) refl
  where
    go : (b : Bool) → p x ≡ b → filter p xs ≡ cond b (x ∷ filter p xs) (filter p xs)
    go true e = let far = behind 0 x refl e in absurd (omega (arith, far))
    go false e = refl

-- ---- descendants

module _ (ns : Nodes) (tree : IsTree ns) where
  -- the place of a parent, in the tree's shape
  placed : (i : ℕ) → slice_get (parent_places (shape_of ns)) i ≡ option_map (λ (n : Node). option_and_then (place_of ns) n.parent) (slice_get ns i)
  placed i =
      slice_get-map (λ (entry : Key × Option Key). option_and_then (place_in (shape_of ns)) entry.1) (shape_of ns) i
      ∙ ap (option_map (λ (entry : Key × Option Key). option_and_then (place_in (shape_of ns)) entry.1)) (slice_get-map (λ (n : Node). (n.key, n.parent)) ns i)
      ∙ go (slice_get ns i)
    where
      up : (o : Option Key) → option_and_then (place_in (shape_of ns)) o ≡ option_and_then (place_of ns) o
      up None = refl
      up (Some k) = place_in_shape ns k

      go : (o : Option Node) → option_map (λ (entry : Key × Option Key). option_and_then (place_in (shape_of ns)) entry.1) (option_map (λ (n : Node). (n.key, n.parent)) o) ≡ option_map (λ (n : Node). option_and_then (place_of ns) n.parent) o
      go None = refl
      go (Some n) = ap (λ (q : Option ℕ). Some q) (up n.parent)

  -- both ways of saying it
  placed_to : (i r : ℕ) → parent_place ns i ≡ Some r → slice_get (parent_places (shape_of ns)) i ≡ Some (Some r)
  placed_to i r e = placed i ∙ go (slice_get ns i) e
    where
      go : (o : Option Node) → option_and_then (λ (n : Node). option_and_then (place_of ns) n.parent) o ≡ Some r → option_map (λ (n : Node). option_and_then (place_of ns) n.parent) o ≡ Some (Some r)
      go None h = absurd (none-some r h)
      go (Some n) h = ap (λ (q : Option ℕ). Some q) h

  placed_from : (i r : ℕ) → slice_get (parent_places (shape_of ns)) i ≡ Some (Some r) → parent_place ns i ≡ Some r
  placed_from i r e = go (slice_get ns i) (sym (placed i) ∙ e)
    where
      go : (o : Option Node) → option_map (λ (n : Node). option_and_then (place_of ns) n.parent) o ≡ Some (Some r) → option_and_then (λ (n : Node). option_and_then (place_of ns) n.parent) o ≡ Some r
      go None h = absurd (none-some (Some r) h)
      go (Some n) h = same_Some _ (Some r) h

  -- what stands between a parent and a child has its parent there
  between : (m r q i : ℕ) → parent_place ns m ≡ Some r → i ≤ r → r < q → q ≤ m → (up : ℕ) × (i ≤ up) × (parent_place ns q ≡ Some up)
  between m r q i up low lower upper = elim (cases_lt q m) [
    | inl inside ↦
        let gap = tree.shape.in_order.no_gap m r q (placed_to m r up) lower inside in
        (gap.0, trans i r gap.0 low gap.1, placed_from q gap.0 gap.2)
    | inr past ↦ let same : m ≡ q = omega (arith, past, upper) in (r, low, ap (parent_place ns) (sym same) ∙ up)
  ]
    where
      trans : (a b c : ℕ) → a ≤ b → b ≤ c → a ≤ c
      trans a b c h g = omega (arith, h, g)

  -- an option's parent is the select, or a child of it
  abbrev pub Way : Key → Option Key → Type 0
  Way s up = (up ≡ Some s) ⊎ ((g : Key) × (up ≡ Some g) × (parent_of ns g ≡ Some s))

  pub way : (s k : Key) (n : Node) → at_key ns k ≡ Some n → is_option_of ns s k ≡ true → Way s n.parent
  way s k n found is = go (passes is_option ns k) n.parent refl (rw (ap (option_and_then (λ (n : Node). n.parent)) found) at is)
    where
      same : (t : Key) → same_key s t ≡ true → Some t ≡ Some s
      same t h = ap (λ (q : Key). Some q) (sym (key_same s t h))

      if_top : (o : Option Key) → option_map_or (same_key s) (option_and_then (λ top. cond (passes is_select ns top) (Some top) None) o) false ≡ true → o ≡ Some s
      if_top None h = absurd (cc)
      if_top (Some t) h = at_top (passes is_select ns t) h
        where
          at_top : (b : Bool) → option_map_or (same_key s) (cond b (Some t) None) false ≡ true → Some t ≡ Some s
          at_top true h = same t h
          at_top false h = absurd (cc)

      above : (u : Key) (a b : Bool) → option_map_or (same_key s) (cond a (Some u) (cond b (option_and_then (λ top. cond (passes is_select ns top) (Some top) None) (parent_of ns u)) None)) false ≡ true → (Some u ≡ Some s) ⊎ (parent_of ns u ≡ Some s)
      above u true b h = inl (same u h)
      above u false true h = inr (if_top (parent_of ns u) h)
      above u false false h = absurd (cc)

      go : (b : Bool) (up : Option Key) → n.parent ≡ up → option_map_or (same_key s) (cond b (select_above ns up) None) false ≡ true → Way s n.parent
      go false up e h = absurd (cc)
      go true None e h = absurd (cc)
      go true (Some u) e h = elim (above u (passes is_select ns u) (passes is_optgroup ns u) h) [
        | inl top ↦ inl (e ∙ top)
        | inr top ↦ inr (u, e, top)
      ]

  -- the place of an element's parent
  parent_at : (m j : ℕ) (n : Node) (g : Key) → slice_get ns m ≡ Some n → n.parent ≡ Some g → place_of ns g ≡ Some j → parent_place ns m ≡ Some j
  parent_at m j n g at up there = ap (option_and_then (λ (n : Node). option_and_then (place_of ns) n.parent)) at ∙ ap (option_and_then (place_of ns)) up ∙ there

  -- an option stands behind its select, and what stands between them has its parent there
  abbrev IsInside : ℕ → ℕ → Type 0
  IsInside i m = (i < m) × ((q : ℕ) → i < q → q ≤ m → (up : ℕ) × (i ≤ up) × (parent_place ns q ≡ Some up))

  module _ (s : Key) (i : ℕ) (there : place_of ns s ≡ Some i) where
    child_inside : (m : ℕ) (n : Node) → slice_get ns m ≡ Some n → n.parent ≡ Some s → IsInside i m
    child_inside m n at up =
        let before = parent_before ns tree m n s at up in
        let same : before.0 ≡ i = same_Some before.0 i (sym before.2 ∙ there) in
        (subst (λ (j : ℕ). j < m) same before.1, λ q low high. between m i q i (parent_at m i n s at up there) (omega arith) low high)

    nested_inside : (m j : ℕ) (n : Node) (g : Key) → slice_get ns m ≡ Some n → n.parent ≡ Some g → place_of ns g ≡ Some j → j < m → IsInside i j → IsInside i m
    nested_inside m j n g at up placed_g lower inside =
        let first = inside.0 in (
          omega (arith, first, lower),
          λ q low high. elim (cases_lt j q) [
            | inl past ↦ between m j q i (parent_at m j n g at up placed_g) (omega (arith, first)) past high
            | inr upper ↦ inside.1 q low upper
          ],
        )

    option_inside : (m : ℕ) (n : Node) → slice_get ns m ≡ Some n → is_option_of ns s n.key ≡ true → IsInside i m
    option_inside m n at is = elim (way s n.key n (at_place ns tree m n at).0 is) [
      | inl up ↦ child_inside m n at up
      | inr above ↦
          let before = parent_before ns tree m n above.0 at above.1 in
          nested_inside m before.0 n above.0 at above.1 before.2 before.1 (group_inside above.0 before.0 before.2 above.2)
    ]
      where
        group_inside : (g : Key) (j : ℕ) → place_of ns g ≡ Some j → parent_of ns g ≡ Some s → IsInside i j
        group_inside g j placed_g top = go (slice_get ns j) refl (sym (ap (option_and_then (λ (n : Node). n.parent)) (at_key_place ns g ∙ ap (option_and_then (slice_get ns)) placed_g)) ∙ top)
          where
            go : (o : Option Node) → slice_get ns j ≡ o → option_and_then (λ (n : Node). n.parent) o ≡ Some s → IsInside i j
            go None e h = absurd (none-some s h)
            go (Some n) e h = child_inside j n e h

    -- so no option stands up to the select
    pub options_start : options_from ns s (i + 1) ≡ options ns s
    options_start = rw add-one (front_none (λ n. is_option_of ns s n.key) ns (suc i) (λ m n at is. let far = (option_inside m n at is).0 in omega (arith, far)))

    -- nor from the first element on whose parent stands before the select
    pub options_end : (q : ℕ) → i < q → option_map_or (leb i) (parent_place ns q) false ≡ false → options_from ns s q ≡ []
    options_end q low out = past_none (λ n. is_option_of ns s n.key) ns q (λ m n at is high.
        let up = (option_inside m n at is).1 q low high in
        contradiction up.0 up.1 (rw up.2 at out))
      where
        contradiction : (r : ℕ) → i ≤ r → leb i r ≡ false → ⊥
        contradiction r le low = grind (arith, nat_tests)

-- past the last element there is none
pub options_past : (ns : Nodes) (s : Key) (q : ℕ) → length ns ≤ q → options_from ns s q ≡ []
options_past ns s q past = ap (filter (λ n. is_option_of ns s n.key)) (drop_all q ns past)

-- a select has a place
pub select_there : (ns : Nodes) (s : Key) → passes is_select ns s ≡ true → None ≡ place_of ns s → ⊥
select_there ns s is none = go (rw (at_key_place ns s, ← none) at is)
  where
    go : false ≡ true → ⊥
    go h = cc

pub placed_within : (ns : Nodes) (k : Key) (i : ℕ) → place_of ns k ≡ Some i → i < length ns
placed_within [] k i e = absurd (none-some i e)
placed_within (n ∷ ns) k i e = (position-Some (is_key k) (n ∷ ns) i n e).0
