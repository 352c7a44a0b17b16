-- One attribute set or taken away: the others stay, and no two names become one.
use Rattle.std.proofs.Common.{◌≡◌, ◌≢◌, ℕ, zero, suc, inl, inr, ◌||◌, ◌<◌, length, get_or, set, arith, Bool, true, false, not, cond, List, [], ◌∷◌, ◌++◌, map, Option, Some, None, refl, sym, ap, ◌∙◌, subst}
use Rattle.std.specs.List.{All, AllPairs, filter, find, list_any, position}
use Rattle.std.specs.Option.{option_map, option_or}
use Rattle.std.specs.Str.{bytes_eq}
use Rattle.std.proofs.lemmas.Bool.{both_ways, cases_order, false_from_ne_true, or_left, or_parts, or_right}
use Rattle.std.proofs.lemmas.List.{get_or-map, get_or_default, length-map, map-append}
use Rattle.std.proofs.lemmas.List.Elements.{All-cons, All-nil}
use Rattle.std.proofs.lemmas.List.Folds.{find-append}
use Rattle.std.proofs.lemmas.List.Kept.{AllPairs-filter}
use Rattle.std.proofs.lemmas.List.Quantifiers.{all_pairs_push, position-Some}
use Rattle.std.proofs.lemmas.Option.{none-some}
use Rattle.std.proofs.lemmas.Slice.Eq.{bytes_eq-Decides}
use Rattle.form_tree.specs.Tree.{NamesDiffer, attr_in, is_named}
use Rattle.form_tree.specs.Attributes.{attrs_with}
use Rattle.form_tree.proofs.Writes.{set_where}
use Rattle.form_text.proofs.Laws.{position-cons}

abbrev Attr : Type 0
Attr = List ℕ × List ℕ

abbrev Attrs : Type 0
Attrs = List Attr

-- an attribute of one name has no other
other_named : (name other : List ℕ) (attr : Attr) → bytes_eq name other ≡ false → is_named name attr ≡ true → is_named other attr ≡ false
other_named name other attr apart named =
    let same : attr.0 ≡ name = (bytes_eq-Decides attr.0 name).0 named in
    subst (λ (x : List ℕ). bytes_eq x other ≡ false) (sym same) apart

-- ---- look-ups of another name

find_kept : (name other : List ℕ) → bytes_eq name other ≡ false → (attrs : Attrs) → find (is_named other) (filter (λ attr. not (is_named name attr)) attrs) ≡ find (is_named other) attrs
find_kept name other apart [] = refl
find_kept name other apart (attr ∷ attrs) = go (find_kept name other apart attrs) (is_named name attr) refl
  where
    go : find (is_named other) (filter (λ attr. not (is_named name attr)) attrs) ≡ find (is_named other) attrs → (b : Bool) → is_named name attr ≡ b → find (is_named other) (cond (not b) (attr ∷ filter (λ attr. not (is_named name attr)) attrs) (filter (λ attr. not (is_named name attr)) attrs)) ≡ cond (is_named other attr) (Some attr) (find (is_named other) attrs)
    go more true e = rw (other_named name other attr apart e) more
    go more false e = rw more refl

abbrev replaced : List ℕ → List ℕ → Attr → Attr
replaced name value attr = cond (is_named name attr) (attr.0, value) attr

find_replaced : (name other value : List ℕ) → bytes_eq name other ≡ false → (attrs : Attrs) → find (is_named other) (map (replaced name value) attrs) ≡ find (is_named other) attrs
find_replaced name other value apart [] = refl
find_replaced name other value apart (attr ∷ attrs) = go (find_replaced name other value apart attrs) (is_named name attr) refl
  where
    go : find (is_named other) (map (replaced name value) attrs) ≡ find (is_named other) attrs → (b : Bool) → is_named name attr ≡ b → find (is_named other) (cond b (attr.0, value) attr ∷ map (replaced name value) attrs) ≡ find (is_named other) (attr ∷ attrs)
    go more true e = let no = other_named name other attr apart e in rw (no, more) refl
    go more false e = rw more refl

-- the value of an attribute of another name stays
pub attr_other : (name other : List ℕ) (value : Option (List ℕ)) → bytes_eq name other ≡ false → (attrs : Attrs) → attr_in (attrs_with attrs name value) other ≡ attr_in attrs other
attr_other name other None apart attrs = ap (option_map (λ (attr : Attr). attr.1)) (find_kept name other apart attrs)
attr_other name other (Some value) apart attrs = ap (option_map (λ (attr : Attr). attr.1)) (go (list_any (is_named name) attrs))
  where
    go : (b : Bool) → find (is_named other) (cond b (map (replaced name value) attrs) (attrs ++ (name, value) ∷ [])) ≡ find (is_named other) attrs
    go true = find_replaced name other value apart attrs
    go false = find-append (is_named other) attrs ((name, value) ∷ []) ∙ rw apart (none (find (is_named other) attrs))
      where
        none : (o : Option Attr) → option_or o None ≡ o
        none None = refl
        none (Some attr) = refl

-- ---- names

abbrev names : Attrs → List (List ℕ)
names attrs = map (λ attr. attr.0) attrs

names_filtered : (name : List ℕ) (attrs : Attrs) → names (filter (λ attr. not (is_named name attr)) attrs) ≡ filter (λ other. not (bytes_eq other name)) (names attrs)
names_filtered name [] = refl
names_filtered name (attr ∷ attrs) = go (names_filtered name attrs) (is_named name attr)
  where
    go : names (filter (λ attr. not (is_named name attr)) attrs) ≡ filter (λ other. not (bytes_eq other name)) (names attrs) → (b : Bool) → names (cond (not b) (attr ∷ filter (λ attr. not (is_named name attr)) attrs) (filter (λ attr. not (is_named name attr)) attrs)) ≡ cond (not b) (attr.0 ∷ filter (λ other. not (bytes_eq other name)) (names attrs)) (filter (λ other. not (bytes_eq other name)) (names attrs))
    go more true = more
    go more false = rw more refl

names_replaced : (name value : List ℕ) (attrs : Attrs) → names (map (replaced name value) attrs) ≡ names attrs
names_replaced name value [] = refl
names_replaced name value (attr ∷ attrs) = rw (names_replaced name value attrs) (ap (λ (x : List ℕ). x ∷ names attrs) (go (is_named name attr)))
  where
    go : (b : Bool) → (cond b (attr.0, value) attr).0 ≡ attr.0
    go true = refl
    go false = refl

all_others : (name : List ℕ) (attrs : Attrs) → list_any (is_named name) attrs ≡ false → All (λ other. other ≢ name) (names attrs)
all_others name [] none = All-nil (λ (other : List ℕ). other ≢ name)
all_others name (attr ∷ attrs) none =
    let parts = or_parts (is_named name attr) (list_any (is_named name) attrs) none in
    All-cons (λ (other : List ℕ). other ≢ name) attr.0 (names attrs) (λ same. both_ways _ parts.0 ((bytes_eq-Decides attr.0 name).1 same)) (all_others name attrs parts.1)

-- no two names become one
pub names_still_differ : (name : List ℕ) (value : Option (List ℕ)) (attrs : Attrs) → NamesDiffer attrs → NamesDiffer (attrs_with attrs name value)
names_still_differ name None attrs differ =
    subst (AllPairs (λ a b. a ≢ b)) (sym (names_filtered name attrs)) (AllPairs-filter (λ a b. a ≢ b) (λ other. not (bytes_eq other name)) (names attrs) differ)
names_still_differ name (Some value) attrs differ = go (list_any (is_named name) attrs) refl
  where
    go : (b : Bool) → list_any (is_named name) attrs ≡ b → NamesDiffer (cond b (map (replaced name value) attrs) (attrs ++ (name, value) ∷ []))
    go true e = subst (AllPairs (λ a b. a ≢ b)) (sym (names_replaced name value attrs)) differ
    go false e =
        subst (AllPairs (λ a b. a ≢ b)) (sym (map-append (λ (attr : Attr). attr.0) attrs ((name, value) ∷ [])))
        (all_pairs_push (λ a b. a ≢ b) (names attrs) name differ (all_others name attrs e))

-- ---- writes by place

any_at : {X : Type 0} (p : X → Bool) (xs : List X) (i : ℕ) (d : X) → i < length xs → p (get_or xs i d) ≡ true → list_any p xs ≡ true
any_at p [] i d below hit = absurd (omega arith)
any_at p (x ∷ xs) zero d below hit = or_left _ _ hit
any_at p (x ∷ xs) (suc i) d below hit = or_right _ _ (any_at p xs i d (omega arith) hit)

none_at : {X : Type 0} (p : X → Bool) (xs : List X) → position p xs ≡ None → list_any p xs ≡ false
none_at p [] none = refl
none_at {X} p (x ∷ xs) none = go (none_at p xs) (p x) (position p xs) refl (sym (position-cons p x xs) ∙ none)
  where
    go : (position p xs ≡ None → list_any p xs ≡ false) → (b : Bool) (o : Option ℕ) → position p xs ≡ o → cond b (Some 0) (option_map suc o) ≡ None → (b || list_any p xs) ≡ false
    go more true o e h = absurd (none-some 0 (sym h))
    go more false None e h = more e
    go more false (Some n) e h = absurd (none-some (suc n) (sym h))

-- the value is set where the name stands
pub put_there : (attrs : Attrs) (name value : List ℕ) → NamesDiffer attrs → (i : ℕ) (old : Attr) → position (is_named name) attrs ≡ Some i → old ≡ get_or attrs i old → attrs_with attrs name (Some value) ≡ set attrs i (old.0, value)
put_there attrs name value differ i old found read =
    rw (any_at (is_named name) attrs i old below (hit old)) (sym (set_where (is_named name) (λ (attr : Attr). (attr.0, value)) attrs i (old.0, value) below (hit (old.0, value)) others is))
  where
    found_at : (d : Attr) → (i < length attrs) × (is_named name (get_or attrs i d) ≡ true) × ((k : ℕ) → k < i → is_named name (get_or attrs k d) ≡ false)
    found_at d = position-Some (is_named name) attrs i d found

    below : i < length attrs
    below = (found_at old).0

    hit : (d : Attr) → is_named name (get_or attrs i d) ≡ true
    hit d = (found_at d).1

    -- the name at a place
    name_at : (j : ℕ) (d : Attr) → j < length attrs → get_or (names attrs) j d.0 ≡ (get_or attrs j d).0
    name_at j d lt = get_or-map (λ (attr : Attr). attr.0) attrs j d d.0 lt

    long : length (names attrs) ≡ length attrs
    long = length-map attrs (λ (attr : Attr). attr.0)

    others : (j : ℕ) (d : Attr) → j < length attrs → j ≢ i → is_named name (get_or attrs j d) ≡ false
    others j d lt apart = false_from_ne_true _ (λ also.
        let one : (get_or attrs i d).0 ≡ name = (bytes_eq-Decides (get_or attrs i d).0 name).0 (hit d) in
        let two : (get_or attrs j d).0 ≡ name = (bytes_eq-Decides (get_or attrs j d).0 name).0 also in
        let same : get_or (names attrs) i d.0 ≡ get_or (names attrs) j d.0 = name_at i d below ∙ one ∙ sym two ∙ sym (name_at j d lt) in
        elim (cases_order i j) [
          | inl e ↦ apart (sym e)
          | inr order ↦ elim order [
            | inl lower ↦ differ i j d.0 lower (rw long lt) same
            | inr higher ↦ differ j i d.0 higher (rw long below) (sym same)
          ]
        ])

    named : Attr → Attr
    named attr = (attr.0, value)

    is : named old ≡ named (get_or attrs i (old.0, value))
    is =
        let kept : get_or attrs i (old.0, value) ≡ old = get_or_default attrs i (old.0, value) old below ∙ sym read in
        ap named (sym kept)

-- or it goes last
pub put_new : (attrs : Attrs) (name value : List ℕ) → position (is_named name) attrs ≡ None → attrs_with attrs name (Some value) ≡ attrs ++ (name, value) ∷ []
put_new attrs name value found = rw (none_at (is_named name) attrs found) refl
