-- The depth of an element is that of its shape: it stays where keys and parents do.
use Rattle.std.proofs.Common.{◌≡◌, ℕ, suc, Bool, true, false, cond, [], ◌∷◌, length, Option, Some, None, refl, sym, ap, ◌∙◌}
use Rattle.std.specs.Prelude.{reverse}
use Rattle.std.specs.List.{find}
use Rattle.std.specs.Option.{option_and_then}
use Rattle.std.proofs.lemmas.List.{length-map, map-append, reverse-append}
use Rattle.form_tree.specs.declared.node.Key.{Key}
use Rattle.form_tree.specs.declared.node.Node.{Node}
use Rattle.form_tree.specs.Elements.{same_key}
use Rattle.form_tree.specs.Ownership.{above, ancestors}
use Rattle.form_tree.specs.Tree.{Nodes, Shape, at_key, is_key, parent_of, shape_of}

abbrev entry : Node → Key × Option Key
entry n = (n.key, n.parent)

-- how many are met on the way up
abbrev depth_above : Shape → Option Key → ℕ
depth_above [] up = 0
depth_above (e ∷ s) None = 0
depth_above (e ∷ s) (Some k) = cond (same_key k e.0) (suc (depth_above s e.1)) (depth_above s (Some k))

above_long : (t : Nodes) (up : Option Key) → length (above t up) ≡ depth_above (shape_of t) up
above_long [] up = refl
above_long (n ∷ t) None = refl
above_long (n ∷ t) (Some k) = go (is_key k n) (above_long t n.parent) (above_long t (Some k))
  where
    go : (b : Bool) → length (above t n.parent) ≡ depth_above (shape_of t) n.parent → length (above t (Some k)) ≡ depth_above (shape_of t) (Some k) → length (cond b (n ∷ above t n.parent) (above t (Some k))) ≡ cond b (suc (depth_above (shape_of t) n.parent)) (depth_above (shape_of t) (Some k))
    go true here later = ap suc here
    go false here later = later

reverse_shape : (t : Nodes) → shape_of (reverse t) ≡ reverse (shape_of t)
reverse_shape [] = refl
reverse_shape (n ∷ t) =
    rw (reverse-append (n ∷ []) t, reverse-append (entry n ∷ []) (shape_of t), map-append entry (reverse t) (n ∷ []), reverse_shape t) refl

abbrev parent_in : Shape → Key → Option Key
parent_in s k = option_and_then (λ e. e.1) (find (λ e. same_key k e.0) s)

parent_shaped : (t : Nodes) (k : Key) → parent_of t k ≡ parent_in (shape_of t) k
parent_shaped [] k = refl
parent_shaped (n ∷ t) k = go (is_key k n) (parent_shaped t k)
  where
    go : (b : Bool) → parent_of t k ≡ parent_in (shape_of t) k → option_and_then (λ (m : Node). m.parent) (cond b (Some n) (at_key t k)) ≡ option_and_then (λ (e : Key × Option Key). e.1) (cond b (Some (entry n)) (find (λ (e : Key × Option Key). same_key k e.0) (shape_of t)))
    go true same = refl
    go false same = same

depth_shaped : (t : Nodes) (k : Key) → length (ancestors t k) ≡ depth_above (reverse (shape_of t)) (parent_in (shape_of t) k)
depth_shaped t k =
    above_long (reverse t) (parent_of t k) ∙ ap (λ (s : Shape). depth_above s (parent_of t k)) (reverse_shape t) ∙ ap (depth_above (reverse (shape_of t))) (parent_shaped t k)

pub same_depth : (t u : Nodes) → shape_of u ≡ shape_of t → (k : Key) → length (ancestors u k) ≡ length (ancestors t k)
same_depth t u same k =
    depth_shaped u k ∙ ap (λ (s : Shape). depth_above (reverse s) (parent_in s k)) same ∙ sym (depth_shaped t k)

pub same_length : (t u : Nodes) → shape_of u ≡ shape_of t → length u ≡ length t
same_length t u same = sym (length-map u entry) ∙ ap (λ (s : Shape). length s) same ∙ length-map t entry
