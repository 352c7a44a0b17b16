-- The elements behind a select, up to the first that is no descendant, have all its options.
use Rattle.std.proofs.Common.{◌≡◌, ℕ, zero, suc, ◌+◌, Bool, true, false, cond, [], ◌∷◌, ◌++◌, drop, take, get_or, Some, None, inl, inr, refl, sym, ap, ◌∙◌}
use Rattle.std.specs.List.{All, filter, slice_get}
use Rattle.std.specs.Option.{option_and_then}
use Rattle.std.proofs.lemmas.List.{drop-drop}
use Rattle.std.proofs.lemmas.List.Elements.{All-take, All-drop, filter-append}
use Rattle.std.proofs.lemmas.Option.{none-some, slice_get-get_or}
use Rattle.form_tree.specs.declared.node.Key.{Key}
use Rattle.form_tree.specs.declared.node.Node.{Node}
use Rattle.form_tree.specs.Selects.{is_option_of, options}
use Rattle.form_tree.specs.Tree.{Nodes, IsTree, at_key, parent_of, place_of}
use Rattle.form_tree.proofs.Laws.{at_key_place, at_place, parent_there}
use Rattle.form_select.specs.Options.{options_from}
use Rattle.form_select.proofs.WalkLaws.{way}

-- where no element passes, none is left
none_pass : (p : Node → Bool) (xs : Nodes) → ((m : ℕ) (n : Node) → slice_get xs m ≡ Some n → p n ≡ true → ⊥) → filter p xs ≡ []
none_pass p [] never = refl
none_pass p (x ∷ xs) never = go (none_pass p xs (λ m n at passes. never (suc m) n at passes)) (p x) refl
  where
    go : filter p xs ≡ [] → (b : Bool) → p x ≡ b → cond b (x ∷ filter p xs) (filter p xs) ≡ []
    go rest true e = absurd (never 0 x refl e)
    go rest false e = rest

-- the options among the first elements from a place on, where none stands behind these
pub options_among : (ns : Nodes) (s : Key) (start count : ℕ)
    → options_from ns s start ≡ options ns s → options_from ns s (start + count) ≡ []
    → filter (λ n. is_option_of ns s n.key) (take count (drop start ns)) ≡ options ns s
options_among ns s start count all none =
    nothing (filter p (take count (drop start ns)))
    ∙ ap (λ xs. filter p (take count (drop start ns)) ++ xs) (sym (ap (filter p) (drop-drop count start ns) ∙ none))
    ∙ sym (filter-append p (take count (drop start ns)) (drop count (drop start ns)))
    ∙ ap (filter p) (take_and_drop (drop start ns) count)
    ∙ all
  where
    p : Node → Bool
    p n = is_option_of ns s n.key

    nothing : (xs : Nodes) → xs ≡ xs ++ []
    nothing [] = refl
    nothing (x ∷ xs) = ap (λ ys. x ∷ ys) (nothing xs)

    take_and_drop : (xs : Nodes) (i : ℕ) → take i xs ++ drop i xs ≡ xs
    take_and_drop xs zero = refl
    take_and_drop [] (suc i) = refl
    take_and_drop (x ∷ xs) (suc i) = ap (λ ys. x ∷ ys) (take_and_drop xs i)

-- a select that is not there has no option
pub no_select : (ns : Nodes) → IsTree ns → (s : Key) → None ≡ place_of ns s → [] ≡ options ns s
no_select ns tree s none = sym (none_pass (λ n. is_option_of ns s n.key) ns (λ m n at is.
    elim (way ns tree s n.key n (at_place ns tree m n at).0 is) [
      | inl up ↦ not_there n.key (parent_of_own m n at up)
      | inr above ↦ not_there above.0 above.2
    ]))
  where
    absent : (n : Node) → at_key ns s ≡ Some n → ⊥
    absent n found = none-some n (sym (at_key_place ns s ∙ ap (option_and_then (slice_get ns)) (sym none)) ∙ found)

    parent_of_own : (m : ℕ) (n : Node) → slice_get ns m ≡ Some n → n.parent ≡ Some s → parent_of ns n.key ≡ Some s
    parent_of_own m n at up = ap (option_and_then (λ (n : Node). n.parent)) (at_place ns tree m n at).0 ∙ up

    not_there : (k : Key) → parent_of ns k ≡ Some s → ⊥
    not_there k up = let top = parent_there ns tree k s up in absent top.0 top.1

-- each element is found by its key
pub own_keys_among : (ns : Nodes) → IsTree ns → (i k : ℕ) → All (λ n. at_key ns n.key ≡ Some n) (take k (drop i ns))
own_keys_among ns tree i k = All-take (λ n. at_key ns n.key ≡ Some n) k (drop i ns) (All-drop (λ n. at_key ns n.key ≡ Some n) i ns own_keys)
  where
    own_keys : All (λ n. at_key ns n.key ≡ Some n) ns
    own_keys i d below = (at_place ns tree i (get_or ns i d) (slice_get-get_or ns i d below)).0
