-- Elements among those that a form owns, found by their keys.
use Rattle.std.proofs.Common.{◌≡◌, ℕ, suc, ◌<◌, Bool, true, false, ◌&&◌, cond, List, [], ◌∷◌, length, map, get_or, Some, refl, ap, ◌∙◌, arith}
use Rattle.std.specs.List.{filter, find}
use Rattle.std.specs.Option.{option_map}
use Rattle.std.proofs.lemmas.List.{length-map}
use Rattle.form_tree.specs.declared.node.Key.{Key}
use Rattle.form_tree.specs.declared.node.Node.{Node}
use Rattle.form_tree.specs.Elements.{passes}
use Rattle.form_tree.specs.Tree.{Nodes, IsTree, at_key}
use Rattle.form_tree.proofs.Laws.{passes_found}
use Rattle.form_page.proofs.MemberLaws.{all_own}

abbrev keys : Nodes → List Key
keys ns = map (λ n. n.key) ns

module _ (ns : Nodes) (p g : Node → Bool) where
  -- each of these elements is found by its own key
  abbrev AreOwn : Nodes → Type 0
  AreOwn xs = (i : ℕ) (d : Node) → i < length xs → at_key ns (get_or xs i d).key ≡ Some (get_or xs i d)

  passing_of : (xs : Nodes) → AreOwn xs → filter (passes p ns) (keys (filter g xs)) ≡ keys (filter (λ n. p n && g n) xs)
  passing_of [] own = refl
  passing_of (x ∷ xs) own = go (passing_of xs (λ i d below. own (suc i) d (omega arith))) (p x) (g x) (passes_found p ns x.key x (own 0 x (omega arith)))
    where
      go : filter (passes p ns) (keys (filter g xs)) ≡ keys (filter (λ n. p n && g n) xs) → (a b : Bool) → passes p ns x.key ≡ a → filter (passes p ns) (keys (cond b (x ∷ filter g xs) (filter g xs))) ≡ keys (cond (a && b) (x ∷ filter (λ n. p n && g n) xs) (filter (λ n. p n && g n) xs))
      go more true true e = rw e (ap (λ (ks : List Key). x.key ∷ ks) more)
      go more false true e = rw e more
      go more true false e = more
      go more false false e = more

  first_of : (xs : Nodes) → AreOwn xs → find (passes p ns) (keys (filter g xs)) ≡ option_map (λ n. n.key) (find (λ n. p n && g n) xs)
  first_of [] own = refl
  first_of (x ∷ xs) own = go (first_of xs (λ i d below. own (suc i) d (omega arith))) (p x) (g x) (passes_found p ns x.key x (own 0 x (omega arith)))
    where
      go : find (passes p ns) (keys (filter g xs)) ≡ option_map (λ n. n.key) (find (λ n. p n && g n) xs) → (a b : Bool) → passes p ns x.key ≡ a → find (passes p ns) (keys (cond b (x ∷ filter g xs) (filter g xs))) ≡ option_map (λ n. n.key) (cond (a && b) (Some x) (find (λ n. p n && g n) xs))
      go more true true e = rw e refl
      go more false true e = rw e more
      go more true false e = more
      go more false false e = more

  module _ (tree : IsTree ns) where
    -- those that pass
    pub passing_found : filter (passes p ns) (keys (filter g ns)) ≡ keys (filter (λ n. p n && g n) ns)
    passing_found = passing_of ns (all_own ns tree)

    -- the first of them
    pub first_found : find (passes p ns) (keys (filter g ns)) ≡ option_map (λ n. n.key) (find (λ n. p n && g n) ns)
    first_found = first_of ns (all_own ns tree)

    -- and how many they are
    pub count_found : length (filter (passes p ns) (keys (filter g ns))) ≡ length (filter (λ n. p n && g n) ns)
    count_found = ap length passing_found ∙ length-map (filter (λ n. p n && g n) ns) (λ n. n.key)
