-- Keys and places, in the list of nodes and in its shape.
use Rattle.std.proofs.Common.{◌≡◌, ℕ, ◌<◌, ◌≤◌, Bool, List, [], ◌∷◌, length, map, get_or, Option, Some, None, cond, inl, inr, refl, sym, ap, ◌∙◌, arith, eqb, ltb}
use Rattle.std.specs.List.{find, position, position_or_len, slice_get}
use Rattle.std.specs.Option.{option_and_then}
use Rattle.std.proofs.lemmas.Bool.{cases_lt}
use Rattle.std.proofs.lemmas.Bool.Decides.{nat_tests}
use Rattle.std.proofs.lemmas.List.{get_or-map, length-map}
use Rattle.std.proofs.lemmas.List.Folds.{find_at}
use Rattle.std.proofs.lemmas.Option.{slice_get_past, slice_get-get_or}
use Rattle.form_tree.specs.declared.node.Key.{Key}
use Rattle.form_tree.specs.declared.node.Node.{Node}
use Rattle.form_tree.specs.Index.{IsIndexOf, indexed}
use Rattle.form_tree.specs.Tree.{Nodes, IsTreeShape, shape_of, place_in, place_of, at_key, is_key}

-- the place of the image of an element
position_or_len-map : {X Y : Type 0} (f : X → Y) (p : Y → Bool) (xs : List X) → position_or_len p (map f xs) ≡ position_or_len (λ x. p (f x)) xs
position_or_len-map f p [] = refl
position_or_len-map f p (x ∷ xs) = grind (arith, position_or_len-map f p xs)

position-map : {X Y : Type 0} (f : X → Y) (p : Y → Bool) (xs : List X) → position p (map f xs) ≡ position (λ x. p (f x)) xs
position-map f p xs = rw (position_or_len-map f p xs, length-map xs f) refl

-- the element at the place
find-position : {X : Type 0} (p : X → Bool) (xs : List X) → find p xs ≡ option_and_then (slice_get xs) (position p xs)
find-position p xs = rw (find_at p xs) (elim (cases_lt (position_or_len p xs) (length xs)) [
  | inl below ↦ grind (arith, nat_tests)
  | inr past ↦ grind (arith, nat_tests, slice_get_past xs (position_or_len p xs))
])

-- a key stands in the shape where it stands in the list
pub place_in_shape : (ns : Nodes) (k : Key) → place_in (shape_of ns) k ≡ place_of ns k
place_in_shape ns k = position-map (λ (n : Node). (n.key, n.parent)) (λ entry. eqb k.0 entry.0.0) ns

-- the node of a key is the node at its place
pub at_key_place : (ns : Nodes) (k : Key) → at_key ns k ≡ option_and_then (slice_get ns) (place_of ns k)
at_key_place ns k = find-position (is_key k) ns

-- a place that was found is within
pub placed_below : (ns : Nodes) (k : Key) (i : ℕ) → place_of ns k ≡ Some i → i < length ns
placed_below ns k i placed = within (position_or_len (is_key k) ns) (length ns) i placed
  where
    within : (p n i : ℕ) → cond (ltb p n) (Some p) None ≡ Some i → i < n
    within p n i found = grind (arith, nat_tests)

-- the key at a place, in the shape and in the list
key_there : (ns : Nodes) (i : ℕ) (d : Node) (k : Key) → i < length ns → get_or (map (λ (entry : Key × Option Key). entry.0) (shape_of ns)) i k ≡ (get_or ns i d).key
key_there ns i d k below =
    let pair : Node → Key × Option Key = λ n. (n.key, n.parent) in
    let long = length-map ns pair in
    get_or-map (λ (entry : Key × Option Key). entry.0) (shape_of ns) i (pair d) k (omega arith)
    ∙ ap (λ (entry : Key × Option Key). entry.0) (get_or-map pair ns i d (pair d) below)

-- two places have two keys
pub keys_apart : (ns : Nodes) → IsTreeShape (shape_of ns) → (i j : ℕ) (d : Node) → i < j → j < length ns → (get_or ns i d).key ≡ (get_or ns j d).key → ⊥
keys_apart ns shape i j d lower below same =
    let keys = map (λ (entry : Key × Option Key). entry.0) (shape_of ns) in
    let long : length keys ≡ length ns = length-map (shape_of ns) (λ (entry : Key × Option Key). entry.0) ∙ length-map ns (λ (n : Node). (n.key, n.parent)) in
    shape.keys_differ i j d.key lower (omega arith) (key_there ns i d d.key (omega arith) ∙ same ∙ sym (key_there ns j d d.key below))

-- what the index holds for a key
pub indexed_found : (index : List (Option ℕ)) (k : Key) (place : Option ℕ) → k.0 < length index → place ≡ get_or index k.0 place → indexed index k ≡ place
indexed_found index k place below read = ap (option_and_then (λ (o : Option ℕ). o)) (slice_get-get_or index k.0 place below ∙ ap (λ (o : Option ℕ). Some o) (sym read))

pub indexed_past : (index : List (Option ℕ)) (k : Key) → length index ≤ k.0 → indexed index k ≡ None
indexed_past index k past = ap (option_and_then (λ (o : Option ℕ). o)) (slice_get_past index k.0 past)

-- is the place of the key
pub place_indexed : (index : List (Option ℕ)) (ns : Nodes) (k : Key) → IsIndexOf index (shape_of ns) → place_of ns k ≡ indexed index k
place_indexed index ns k agrees = sym (place_in_shape ns k) ∙ sym (agrees k)
