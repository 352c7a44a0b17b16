-- An attribute is what it was set to.
use Rattle.std.proofs.Common.{◌≡◌, ℕ, Bool, true, false, not, ◌||◌, cond, List, [], ◌∷◌, ◌++◌, map, Option, Some, None, refl, ap, ◌∙◌}
use Rattle.std.specs.List.{filter, find, list_any}
use Rattle.std.specs.Option.{option_map}
use Rattle.std.specs.Str.{bytes_eq}
use Rattle.std.proofs.lemmas.Bool.{or_parts}
use Rattle.std.proofs.lemmas.List.Folds.{find-append}
use Rattle.std.proofs.lemmas.Slice.Eq.{bytes_eq-Decides}
use Rattle.form_tree.specs.Attributes.{attrs_with}
use Rattle.form_tree.specs.Tree.{attr_in, is_named}

abbrev Attr : Type 0
Attr = List ℕ × List ℕ

bytes-refl : (s : List ℕ) → bytes_eq s s ≡ true
bytes-refl s = (bytes_eq-Decides s s).1 refl

gone : (name : List ℕ) (attrs : List Attr) → find (is_named name) (filter (λ attr. not (is_named name attr)) attrs) ≡ None
gone name [] = refl
gone name (attr ∷ attrs) = go (gone name attrs) (is_named name attr) refl
  where
    go : find (is_named name) (filter (λ attr. not (is_named name attr)) attrs) ≡ None → (b : Bool) → is_named name attr ≡ b → find (is_named name) (cond (not b) (attr ∷ filter (λ attr. not (is_named name attr)) attrs) (filter (λ attr. not (is_named name attr)) attrs)) ≡ None
    go more true e = more
    go more false e = rw e more

abbrev put : List ℕ → List ℕ → Attr → Attr
put name value attr = cond (is_named name attr) (attr.0, value) attr

abbrev value_found : Option Attr → Option (List ℕ)
value_found o = option_map (λ (attr : Attr). attr.1) o

put_found : (name value : List ℕ) (attrs : List Attr) → list_any (is_named name) attrs ≡ true → value_found (find (is_named name) (map (put name value) attrs)) ≡ Some value
put_found name value [] h = absurd (cc)
put_found name value (attr ∷ attrs) h = go (put_found name value attrs) (is_named name attr) refl h
  where
    go : (list_any (is_named name) attrs ≡ true → value_found (find (is_named name) (map (put name value) attrs)) ≡ Some value) → (b : Bool) → is_named name attr ≡ b → (b || list_any (is_named name) attrs) ≡ true → value_found (find (is_named name) (cond b (attr.0, value) attr ∷ map (put name value) attrs)) ≡ Some value
    go more true e any = let here : bytes_eq attr.0 name ≡ true = e in rw here refl
    go more false e any = rw e (more any)

none_found : (name : List ℕ) (attrs : List Attr) → list_any (is_named name) attrs ≡ false → find (is_named name) attrs ≡ None
none_found name [] h = refl
none_found name (attr ∷ attrs) h =
    let parts = or_parts (is_named name attr) (list_any (is_named name) attrs) h in
    rw parts.0 (none_found name attrs parts.1)

pub attr_set : (name : List ℕ) (value : Option (List ℕ)) (attrs : List Attr) → attr_in (attrs_with attrs name value) name ≡ value
attr_set name None attrs = ap value_found (gone name attrs)
attr_set name (Some value) attrs = go (list_any (is_named name) attrs) refl
  where
    go : (b : Bool) → list_any (is_named name) attrs ≡ b → value_found (find (is_named name) (cond b (map (put name value) attrs) (attrs ++ (name, value) ∷ []))) ≡ Some value
    go true e = put_found name value attrs e
    go false e = ap value_found (find-append (is_named name) attrs ((name, value) ∷ [])) ∙ rw (none_found name attrs e, bytes-refl name) refl
