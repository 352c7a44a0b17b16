-- Elements by their place and by their key, and what is kept of each at its place.
use Rattle.std.proofs.Common.{◌≡◌, ℕ, zero, suc, ◌<◌, [], ◌∷◌, length, map, get_or, Option, Some, None, refl, sym, ap, ◌∙◌, arith}
use Rattle.std.specs.List.{slice_get}
use Rattle.std.specs.Option.{option_and_then, option_map}
use Rattle.std.proofs.lemmas.Option.{get_or_from_slice_get, none-some, slice_get-get_or, slice_get-map}
use Rattle.form_tree.specs.declared.node.Key.{Key}
use Rattle.form_tree.specs.declared.node.Node.{Node}
use Rattle.form_tree.specs.Tree.{Nodes, IsTree, at_key, place_of}
use Rattle.form_tree.proofs.Laws.{at_key_place, at_place, found_key}
use Rattle.form_tree.proofs.Places.{placed_below}

-- the element that stands at a place is found by its key
pub at_own_key : (ns : Nodes) → IsTree ns → (i : ℕ) (n : Node) → i < length ns → n ≡ get_or ns i n → at_key ns n.key ≡ Some n
at_own_key ns tree i n below read = (at_place ns tree i n (slice_get-get_or ns i n below ∙ ap (λ (m : Node). Some m) (sym read))).0

pub read_there : (ns : Nodes) (i : ℕ) (n : Node) → i < length ns → n ≡ get_or ns i n → slice_get ns i ≡ Some n
read_there ns i n below read = slice_get-get_or ns i n below ∙ ap (λ (m : Node). Some m) (sym read)

-- where a key stands, there is its element
pub placed_node : (ns : Nodes) (k : Key) (i : ℕ) → Some i ≡ place_of ns k → (m : Node) × (slice_get ns i ≡ Some m) × (at_key ns k ≡ Some m) × (m.key ≡ k)
placed_node ns k i placed = go (slice_get ns i) refl
  where
    go : (o : Option Node) → slice_get ns i ≡ o → (m : Node) × (slice_get ns i ≡ Some m) × (at_key ns k ≡ Some m) × (m.key ≡ k)
    go None e = absurd (past ns i (placed_below ns k i (sym placed)) e)
      where
        past : (xs : Nodes) (j : ℕ) → j < length xs → slice_get xs j ≡ None → ⊥
        past [] j lt e = omega arith
        past (x ∷ xs) zero lt e = none-some x (sym e)
        past (x ∷ xs) (suc j) lt e = past xs j (omega arith) e
    go (Some m) e =
        let found : at_key ns k ≡ Some m = at_key_place ns k ∙ ap (option_and_then (slice_get ns)) (sym placed) ∙ e in
        (m, e, found, found_key ns k m found)

-- what is kept of each element, at the place of one
pub kept_there : {X : Type 0} (f : Node → X) (ns : Nodes) (i : ℕ) (m : Node) (x : X) → slice_get ns i ≡ Some m → get_or (map f ns) i x ≡ f m
kept_there f ns i m x there = get_or_from_slice_get (map f ns) i (f m) x (slice_get-map f ns i ∙ ap (option_map f) there)

pub unplaced : (ns : Nodes) (k : Key) → None ≡ place_of ns k → at_key ns k ≡ None
unplaced ns k none = at_key_place ns k ∙ ap (option_and_then (slice_get ns)) (sym none)
