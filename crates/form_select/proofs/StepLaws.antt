-- One step along the options of a select.
use Rattle.std.proofs.Common.{◌≡◌, ℕ, ◌+◌, Bool, true, false, ◌||◌, List, [], ◌∷◌, ◌++◌, cond, map, Option, Some, None, refl, sym, ap, ◌∙◌, append_assoc}
use Rattle.std.specs.List.{find, list_any, slice_get}
use Rattle.std.specs.Option.{option_map, option_map_or}
use Rattle.std.proofs.lemmas.List.{map-append}
use Rattle.std.proofs.lemmas.List.Folds.{list_any-append}
use Rattle.std.proofs.lemmas.Option.{none-some, same_Some}
use Rattle.form_tree.specs.declared.node.Key.{Key}
use Rattle.form_tree.specs.declared.node.Node.{Node}
use Rattle.form_tree.specs.Elements.{is_option, passes}
use Rattle.form_tree.specs.Selects.{Marked, marked_option}
use Rattle.form_tree.specs.Tree.{Nodes, at_key}
use Rattle.form_select.specs.Options.{as_list, options_at, options_from}
use Rattle.form_select.proofs.WalkLaws.{options_step}

-- what is found is found in the first part, or else in the second
found_first : (test : Node → Bool) (xs ys : Nodes) (n : Node) → find test xs ≡ Some n → find test (xs ++ ys) ≡ Some n
found_first test [] ys n found = absurd (none-some n found)
found_first test (x ∷ xs) ys n found = go (found_first test xs ys n) (test x) found
  where
    go : (find test xs ≡ Some n → find test (xs ++ ys) ≡ Some n) → (b : Bool) → cond b (Some x) (find test xs) ≡ Some n → cond b (Some x) (find test (xs ++ ys)) ≡ Some n
    go more true h = h
    go more false h = more h

found_second : (test : Node → Bool) (xs ys : Nodes) → find test xs ≡ None → find test (xs ++ ys) ≡ find test ys
found_second test [] ys none = refl
found_second test (x ∷ xs) ys none = go (found_second test xs ys) (test x) none
  where
    go : (find test xs ≡ None → find test (xs ++ ys) ≡ find test ys) → (b : Bool) → cond b (Some x) (find test xs) ≡ None → cond b (Some x) (find test (xs ++ ys)) ≡ find test ys
    go more true h = absurd (none-some x (sym h))
    go more false h = more h

module _ (ns : Nodes) (s : Key) (i : ℕ) (all : Nodes) where
  -- the first option that passes stands here
  pub found_here : (test : Node → Bool) → find test (options_from ns s i) ≡ find test all → (k : Key) → find test (options_at ns s i) ≡ at_key ns k → passes is_option ns k ≡ true → find test all ≡ at_key ns k
  found_here test so_far k here is = go (at_key ns k) refl is
    where
      go : (o : Option Node) → at_key ns k ≡ o → option_map_or is_option o false ≡ true → find test all ≡ at_key ns k
      go None e h = absurd (cc)
      go (Some n) e h = sym so_far ∙ ap (find test) (options_step ns s i) ∙ found_first test (options_at ns s i) (options_from ns s (i + 1)) n (here ∙ e) ∙ sym e

  -- or behind this place
  pub found_behind : (test : Node → Bool) → find test (options_from ns s i) ≡ find test all → find test (options_at ns s i) ≡ None → find test (options_from ns s (i + 1)) ≡ find test all
  found_behind test so_far none = sym (found_second test (options_at ns s i) (options_from ns s (i + 1)) none) ∙ sym (ap (find test) (options_step ns s i)) ∙ so_far

  -- the first option stands here
  pub first_here : options_from ns s i ≡ all → (k : Key) → options_at ns s i ≡ as_list (at_key ns k) → passes is_option ns k ≡ true → slice_get all 0 ≡ at_key ns k
  first_here so_far k here is = ap (λ (xs : Nodes). slice_get xs 0) (sym so_far ∙ options_step ns s i ∙ ap (λ (xs : Nodes). xs ++ options_from ns s (i + 1)) here) ∙ go (at_key ns k) is
    where
      go : (o : Option Node) → option_map_or is_option o false ≡ true → slice_get (as_list o ++ options_from ns s (i + 1)) 0 ≡ o
      go None h = absurd (cc)
      go (Some n) h = refl

  -- or behind this place
  pub first_behind : options_from ns s i ≡ all → options_at ns s i ≡ [] → options_from ns s (i + 1) ≡ all
  first_behind so_far none = sym (options_step ns s i ∙ ap (λ (xs : Nodes). xs ++ options_from ns s (i + 1)) none) ∙ so_far

  -- whether an option passes, here or behind this place
  pub any_step : (test : Node → Bool) → list_any test (options_from ns s i) ≡ list_any test all → (list_any test (options_at ns s i) || list_any test (options_from ns s (i + 1))) ≡ list_any test all
  any_step test so_far = sym (ap (list_any test) (options_step ns s i) ∙ list_any-append test (options_at ns s i) (options_from ns s (i + 1))) ∙ so_far

  -- the options up to this place, with that here
  pub marked_step : (marked more : List Marked) → marked ++ map (marked_option ns) (options_from ns s i) ≡ map (marked_option ns) all → more ≡ marked ++ map (marked_option ns) (options_at ns s i)
      → more ++ map (marked_option ns) (options_from ns s (i + 1)) ≡ map (marked_option ns) all
  marked_step marked more so_far pushed =
      ap (λ (xs : List Marked). xs ++ map (marked_option ns) (options_from ns s (i + 1))) pushed
      ∙ append_assoc marked (map (marked_option ns) (options_at ns s i)) (map (marked_option ns) (options_from ns s (i + 1)))
      ∙ ap (λ (xs : List Marked). marked ++ xs) (sym (ap (map (marked_option ns)) (options_step ns s i) ∙ map-append (marked_option ns) (options_at ns s i) (options_from ns s (i + 1))))
      ∙ so_far

-- what was pushed of an option, as a list
pub one_marked : (ns : Nodes) (k : Key) (one : Marked) (here : Nodes) → option_map (marked_option ns) (at_key ns k) ≡ Some one → here ≡ as_list (at_key ns k) → one ∷ [] ≡ map (marked_option ns) here
one_marked ns k one here told is = go (at_key ns k) told ∙ ap (map (marked_option ns)) (sym is)
  where
    go : (o : Option Node) → option_map (marked_option ns) o ≡ Some one → one ∷ [] ≡ map (marked_option ns) (as_list o)
    go None h = absurd (none-some one h)
    go (Some n) h = ap (λ (m : Marked). m ∷ []) (sym (same_Some (marked_option ns n) one h))

-- whether the option here passes
pub any_here : (ns : Nodes) (test : Node → Bool) (k : Key) (here : Nodes) → here ≡ as_list (at_key ns k) → list_any test here ≡ passes test ns k
any_here ns test k here is = ap (list_any test) is ∙ go (at_key ns k)
  where
    go : (o : Option Node) → list_any test (as_list o) ≡ option_map_or test o false
    go None = refl
    go (Some n) = alone (test n)
      where
        alone : (b : Bool) → (b || false) ≡ b
        alone true = refl
        alone false = refl
