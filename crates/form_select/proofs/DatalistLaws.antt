-- What stands above an element, by what stands above its parent.
use Rattle.std.proofs.Common.{◌≡◌, ℕ, zero, suc, ◌<◌, Bool, true, false, ◌||◌, List, [], ◌∷◌, length, map, take, get_or, Some, None, refl, sym, ap, ◌∙◌, subst, arith}
use Rattle.std.specs.List.{list_any, slice_get}
use Rattle.std.specs.Option.{option_and_then}
use Rattle.std.proofs.lemmas.Option.{none-some, same_Some, slice_get_within}
use Rattle.form_tree.specs.declared.node.Key.{Key}
use Rattle.form_tree.specs.declared.node.Node.{Node}
use Rattle.form_tree.specs.Elements.{is_datalist}
use Rattle.form_tree.specs.Ownership.{ancestors}
use Rattle.form_tree.specs.Tree.{Nodes, IsTree, at_key, place_of}
use Rattle.form_tree.proofs.Laws.{ancestors_step, ancestors_top, at_place, parent_before}
use Rattle.form_select.specs.Datalists.{is_in_datalist}
use Rattle.form_select.proofs.Laws.{kept_there, placed_node}

get-take : {X : Type 0} (xs : List X) (i j : ℕ) → j < i → slice_get (take i xs) j ≡ slice_get xs j
get-take xs zero j lt = absurd (omega arith)
get-take [] (suc i) j lt = refl
get-take (x ∷ xs) (suc i) zero lt = refl
get-take (x ∷ xs) (suc i) (suc j) lt = get-take xs i j (omega arith)

module _ (ns : Nodes) (tree : IsTree ns) (i : ℕ) (n : Node) (there : slice_get ns i ≡ Some n) where
  own : at_key ns n.key ≡ Some n
  own = (at_place ns tree i n there).0

  pub top_free : n.parent ≡ None → false ≡ is_in_datalist ns n
  top_free up = sym (ap (list_any is_datalist) (ancestors_top ns tree n.key (ap (option_and_then (λ (m : Node). m.parent)) own ∙ up)))

  pub parent_is_before : (p : Key) (j : ℕ) → n.parent ≡ Some p → Some j ≡ place_of ns p → j < i
  parent_is_before p j up placed =
      let before = parent_before ns tree i n p there up in
      subst (λ (k : ℕ). k < i) (same_Some before.0 j (sym before.2 ∙ sym placed)) before.1

  pub parent_is_there : (p : Key) → n.parent ≡ Some p → None ≡ place_of ns p → ⊥
  parent_is_there p up none =
      let before = parent_before ns tree i n p there up in
      none-some before.0 (none ∙ before.2)

  pub above_parent : (p : Key) (j : ℕ) (m : Node) → n.parent ≡ Some p → Some j ≡ place_of ns p → slice_get ns j ≡ Some m → (is_in_datalist ns m || is_datalist m) ≡ is_in_datalist ns n
  above_parent p j m up placed at =
      let met = placed_node ns p j placed in
      let same : met.0 ≡ m = same_Some met.0 m (sym met.1 ∙ at) in
      let step = ancestors_step ns tree n.key p met.0 (ap (option_and_then (λ (x : Node). x.parent)) own ∙ up) met.2 in
      let above : is_in_datalist ns n ≡ (is_datalist met.0 || list_any is_datalist (ancestors ns p)) = ap (list_any is_datalist) step in
      turned (list_any is_datalist (ancestors ns m.key)) (is_datalist m)
      ∙ ap (λ (x : Node). is_datalist x || list_any is_datalist (ancestors ns x.key)) (sym same)
      ∙ ap (λ (k : Key). is_datalist met.0 || list_any is_datalist (ancestors ns k)) met.3
      ∙ sym above
    where
      turned : (a b : Bool) → (a || b) ≡ (b || a)
      turned true true = refl
      turned true false = refl
      turned false true = refl
      turned false false = refl

  -- what is known of the elements before it
  known_there : (known : List Bool) → known ≡ map (is_in_datalist ns) (take i ns) → (j : ℕ) (m : Node) → j < i → slice_get ns j ≡ Some m → get_or known j false ≡ is_in_datalist ns m
  known_there known stand j m before at =
      ap (λ (bs : List Bool). get_or bs j false) stand ∙ kept_there (is_in_datalist ns) (take i ns) j m false (get-take ns i j before ∙ at)

  pub known_long : (known : List Bool) → known ≡ map (is_in_datalist ns) (take i ns) → (j : ℕ) → j < i → j < length known
  known_long known stand j before = subst (λ (bs : List Bool). j < length bs) (sym stand) (long ns i j (slice_get_within ns i n there) before)
    where
      long : (xs : Nodes) (i j : ℕ) → i < length xs → j < i → j < length (map (is_in_datalist ns) (take i xs))
      long [] i j lt before = absurd (omega arith)
      long (x ∷ xs) zero j lt before = absurd (omega arith)
      long (x ∷ xs) (suc i) zero lt before = omega arith
      long (x ∷ xs) (suc i) (suc j) lt before = let rest = long xs i j (omega arith) (omega arith) in omega (arith, rest)

  pub known_above : (known : List Bool) → known ≡ map (is_in_datalist ns) (take i ns) → (p : Key) (j : ℕ) (m : Node) → n.parent ≡ Some p → Some j ≡ place_of ns p → slice_get ns j ≡ Some m → (get_or known j false || is_datalist m) ≡ is_in_datalist ns n
  known_above known stand p j m up placed at =
      ap (λ (b : Bool). b || is_datalist m) (known_there known stand j m (parent_is_before p j up placed) at) ∙ above_parent p j m up placed at

  pub known_inside : (known : List Bool) → known ≡ map (is_in_datalist ns) (take i ns) → (p : Key) (j : ℕ) → n.parent ≡ Some p → Some j ≡ place_of ns p → get_or known j false ≡ true → get_or known j false ≡ is_in_datalist ns n
  known_inside known stand p j up placed inside =
      let met = placed_node ns p j placed in
      inside ∙ sym (ap (λ (b : Bool). b || is_datalist met.0) inside) ∙ known_above known stand p j met.0 up placed met.1

  pub known_outside : (known : List Bool) → known ≡ map (is_in_datalist ns) (take i ns) → (p : Key) (j : ℕ) (m : Node) → n.parent ≡ Some p → Some j ≡ place_of ns p → slice_get ns j ≡ Some m → get_or known j false ≡ false → is_datalist m ≡ is_in_datalist ns n
  known_outside known stand p j m up placed at outside = sym (ap (λ (b : Bool). b || is_datalist m) outside) ∙ known_above known stand p j m up placed at
