-- What a write to one node leaves of the list.
use Rattle.std.proofs.Common.{◌≡◌, ◌≢◌, ℕ, zero, suc, ◌<◌, Bool, true, false, List, [], ◌∷◌, length, map, get_or, set, cond, Option, Some, inl, inr, refl, sym, ap, ◌∙◌, subst, arith}
use Rattle.std.proofs.lemmas.Bool.{cases_order, eqb-true, false_from_ne_true}
use Rattle.std.specs.List.{slice_get}
use Rattle.std.specs.Option.{option_and_then, option_map}
use Rattle.std.proofs.lemmas.List.{get_or_default, set-get_or}
use Rattle.std.proofs.lemmas.List.Elements.{All-set}
use Rattle.std.proofs.lemmas.List.Quantifiers.{position-Some}
use Rattle.std.proofs.lemmas.Option.{slice_get-get_or}
use Rattle.std.proofs.Math.Seq.{map-set_same}
use Rattle.form_tree.specs.declared.node.Key.{Key}
use Rattle.form_tree.specs.declared.node.Node.{Node}
use Rattle.form_tree.specs.Index.{IsIndexOf}
use Rattle.form_tree.specs.Tree.{Nodes, AreGiven, IsTree, NamesDiffer, attrs_of, shape_of, place_of, is_key, with_node}
use Rattle.form_tree.proofs.Places.{at_key_place, placed_below, keys_apart}

-- where no element passes, a change of those that pass changes nothing
map_none : {X : Type 0} (p : X → Bool) (f : X → X) (xs : List X) → ((j : ℕ) (d : X) → j < length xs → p (get_or xs j d) ≡ false) → map (λ y. cond (p y) (f y) y) xs ≡ xs
map_none p f [] none = refl
map_none p f (y ∷ ys) none = rw (none 0 y (omega arith), map_none p f ys (λ j d lt. none (suc j) d (omega arith))) refl

-- a write of the one element that passes
pub set_where : {X : Type 0} (p : X → Bool) (f : X → X) (xs : List X) (i : ℕ) (x : X) → i < length xs → p (get_or xs i x) ≡ true → ((j : ℕ) (d : X) → j < length xs → j ≢ i → p (get_or xs j d) ≡ false) → x ≡ f (get_or xs i x) → set xs i x ≡ map (λ y. cond (p y) (f y) y) xs
set_where p f [] i x below hit others is = absurd (omega arith)
set_where p f (y ∷ ys) zero x below hit others is = rw (hit, map_none p f ys (λ j d lt. others (suc j) d (omega arith) (λ e. omega arith))) (ap (λ z. z ∷ ys) is)
set_where p f (y ∷ ys) (suc i) x below hit others is =
    rw (others 0 y (omega arith) (λ e. omega arith), ← set_where p f ys i x (omega arith) hit (λ j d lt differs. others (suc j) d (omega arith) (λ e. differs (omega arith))) is) refl

module _ (ns : Nodes) (tree : IsTree ns) (k : Key) (i : ℕ) (placed : place_of ns k ≡ Some i) (old : Node) (read : old ≡ get_or ns i old) where
  below : i < length ns
  below = placed_below ns k i placed

  hit : (d : Node) → is_key k (get_or ns i d) ≡ true
  hit d = (position-Some (is_key k) ns i d placed).1

  -- a node whose key and parent stay keeps the shape
  same_shape : (new : Node) → new.key ≡ old.key → new.parent ≡ old.parent → shape_of (set ns i new) ≡ shape_of ns
  same_shape new same_key same_parent = map-set_same (λ (n : Node). (n.key, n.parent)) ns i new old (rw (← read, same_key, same_parent) refl)

  -- and with its attributes' names apart the tree stays one, with the same index
  keeps_tree : (new : Node) → new.key ≡ old.key → new.parent ≡ old.parent → NamesDiffer new.attrs → IsTree (set ns i new)
  keeps_tree new same_key same_parent names = record {
    shape = rw (same_shape new same_key same_parent) tree.shape;
    names = All-set (λ (n : Node). NamesDiffer n.attrs) ns i new names tree.names;
  }

  keeps_index : (index : List (Option ℕ)) → IsIndexOf index (shape_of ns) → (new : Node) → new.key ≡ old.key → new.parent ≡ old.parent → IsIndexOf index (shape_of (set ns i new))
  keeps_index index agrees new same_key same_parent = subst (IsIndexOf index) (sym (same_shape new same_key same_parent)) agrees

  keeps_given : (used : ℕ) → AreGiven used (shape_of ns) → (new : Node) → new.key ≡ old.key → new.parent ≡ old.parent → AreGiven used (shape_of (set ns i new))
  keeps_given used given new same_key same_parent = subst (AreGiven used) (sym (same_shape new same_key same_parent)) given

  pub names_there : NamesDiffer old.attrs
  names_there = subst (λ (n : Node). NamesDiffer n.attrs) (sym read) (tree.names i old below)

  -- so what a tree keeps stays
  pub keeps : (index : List (Option ℕ)) → IsIndexOf index (shape_of ns) → (used : ℕ) → AreGiven used (shape_of ns) → (new : Node) → new.key ≡ old.key → new.parent ≡ old.parent → NamesDiffer new.attrs
      → IsTree (set ns i new) × IsIndexOf index (shape_of (set ns i new)) × AreGiven used (shape_of (set ns i new))
  keeps index agrees used given new same_key same_parent names = (keeps_tree new same_key same_parent names, keeps_index index agrees new same_key same_parent, keeps_given used given new same_key same_parent)

  -- every other place has another key
  others : (j : ℕ) (d : Node) → j < length ns → j ≢ i → is_key k (get_or ns j d) ≡ false
  others j d in_range differs = false_from_ne_true _ (λ also.
      let one : k.0 ≡ (get_or ns i d).key.0 = eqb-true _ _ (hit d) in
      let two : k.0 ≡ (get_or ns j d).key.0 = eqb-true _ _ also in
      let same : (get_or ns i d).key ≡ (get_or ns j d).key = ap (λ n. record { 0 = n }) (sym one ∙ two) in
      elim (cases_order i j) [
        | inl e ↦ differs (sym e)
        | inr apart ↦ elim apart [
          | inl lower ↦ keys_apart ns tree.shape i j d lower in_range same
          | inr higher ↦ keys_apart ns tree.shape j i d higher below (sym same)
        ]
      ])

  -- the list with that one node changed
  pub wrote : (f : Node → Node) (new : Node) → new ≡ f old → set ns i new ≡ with_node ns k f
  wrote f new is =
      let kept : get_or ns i new ≡ old = get_or_default ns i new old below ∙ sym read in
      set_where (is_key k) f ns i new below (hit new) others (is ∙ ap f (sym kept))

  -- the attributes that stand there
  pub attrs_there : attrs_of ns k ≡ Some old.attrs
  attrs_there =
      let at : slice_get ns i ≡ Some old = slice_get-get_or ns i old below ∙ ap (λ (n : Node). Some n) (sym read) in
      ap (option_map (λ (n : Node). n.attrs)) (at_key_place ns k ∙ ap (option_and_then (slice_get ns)) placed ∙ at)

  -- a write of what stands there changes nothing
  pub unwrote : set ns i old ≡ ns
  unwrote = ap (set ns i) read ∙ set-get_or ns i old
