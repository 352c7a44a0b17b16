-- What stands above an element, one step up.
use Rattle.std.proofs.Common.{◌≡◌, ℕ, ◌<◌, ◌||◌, Bool, true, false, Option, Some, None, refl, sym, ap, ◌∙◌, subst}
use Rattle.std.specs.Prelude.{unwrap_or}
use Rattle.std.specs.List.{list_any, slice_get}
use Rattle.std.specs.Option.{option_and_then}
use Rattle.std.proofs.lemmas.Option.{none-some, same_Some}
use Rattle.form_tree.specs.declared.node.Key.{Key}
use Rattle.form_tree.specs.declared.node.Node.{Node}
use Rattle.form_tree.specs.Elements.{is_datalist, passes}
use Rattle.form_tree.specs.Ownership.{ancestors}
use Rattle.form_tree.specs.Tree.{Nodes, IsTree, at_key, parent_of, place_of}
use Rattle.form_tree.proofs.Laws.{ancestors_step, ancestors_top, at_key_place, parent_before, parent_there, passes_found}

module _ (ns : Nodes) (tree : IsTree ns) where
  -- what stands above an element is its parent and what stands above that
  pub step_up : (k up : Key) → parent_of ns k ≡ Some up → list_any is_datalist (ancestors ns k) ≡ (passes is_datalist ns up || list_any is_datalist (ancestors ns up))
  step_up k up is =
      let top = parent_there ns tree k up is in
      ap (list_any is_datalist) (ancestors_step ns tree k up top.0 is top.1)
      ∙ ap (λ b. b || list_any is_datalist (ancestors ns up)) (sym (passes_found is_datalist ns up top.0 top.1))

  pub at_top : (k : Key) → parent_of ns k ≡ None → list_any is_datalist (ancestors ns k) ≡ false
  at_top k is = ap (list_any is_datalist) (ancestors_top ns tree k is)

  -- a parent stands before its child
  pub step_falls : (k up : Key) → parent_of ns k ≡ Some up → unwrap_or (place_of ns up) 0 < unwrap_or (place_of ns k) 0
  step_falls k up is = go (place_of ns k) refl
    where
      go : (o : Option ℕ) → place_of ns k ≡ o → unwrap_or (place_of ns up) 0 < unwrap_or o 0
      go None e = absurd (none-some up (sym (ap (option_and_then (λ (n : Node). n.parent)) (at_key_place ns k ∙ ap (option_and_then (slice_get ns)) e)) ∙ is))
      go (Some i) e = at (slice_get ns i) refl
        where
          at : (o : Option Node) → slice_get ns i ≡ o → unwrap_or (place_of ns up) 0 < i
          at None g = absurd (none-some up (sym (ap (option_and_then (λ (n : Node). n.parent)) (at_key_place ns k ∙ ap (option_and_then (slice_get ns)) e ∙ g)) ∙ is))
          at (Some n) g =
              let own : n.parent ≡ Some up = sym (ap (option_and_then (λ (n : Node). n.parent)) (at_key_place ns k ∙ ap (option_and_then (slice_get ns)) e ∙ g)) ∙ is in
              let before = parent_before ns tree i n up g own in
              subst (λ (o : Option ℕ). unwrap_or o 0 < i) (sym before.2) before.1
