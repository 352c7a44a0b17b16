-- The invalid controls of a form, by what is seen of each element.
use Rattle.std.proofs.Common.{◌≡◌, Bool, true, false, cond, [], ◌∷◌, ◌++◌, map, get_or, Some, refl, ap, ◌∙◌}
use Rattle.std.specs.Prelude.{All}
use Rattle.std.specs.List.{filter, flat_map}
use Rattle.std.proofs.lemmas.Option.{slice_get-get_or}
use Rattle.form_tree.specs.declared.node.Key.{Key}
use Rattle.form_tree.specs.declared.node.Node.{Node}
use Rattle.form_tree.specs.Tree.{Nodes, IsTree, at_key}
use Rattle.form_tree.proofs.Laws.{at_place}
use Rattle.form_page.specs.Invalid.{is_invalid_in}
use Rattle.form_submit.specs.Steps.{key_if_invalid}

-- each element is found by its key
pub own_keys : (ns : Nodes) → IsTree ns → All (λ n. at_key ns n.key ≡ Some n) ns
own_keys ns tree i d below = (at_place ns tree i (get_or ns i d) (slice_get-get_or ns i d below)).0

-- the keys of the invalid controls, one element after the other
pub keys_by_step : (ns : Nodes) (form : Key) (elements : Nodes)
    → flat_map (key_if_invalid ns form) elements ≡ map (λ n. n.key) (filter (is_invalid_in ns form) elements)
keys_by_step ns form [] = refl
keys_by_step ns form (n ∷ elements) =
    ap (λ keys. key_if_invalid ns form n ++ keys) (keys_by_step ns form elements)
    ∙ one (is_invalid_in ns form n)
  where
    one : (b : Bool) → cond b (n.key ∷ []) [] ++ map (λ (m : Node). m.key) (filter (is_invalid_in ns form) elements)
        ≡ map (λ (m : Node). m.key) (cond b (n ∷ filter (is_invalid_in ns form) elements) (filter (is_invalid_in ns form) elements))
    one true = refl
    one false = refl
