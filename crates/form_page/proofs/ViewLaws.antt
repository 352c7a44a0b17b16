-- What is kept of each element, read by its key.
use Rattle.std.proofs.Common.{◌≡◌, ℕ, List, map, Option, Some, None, sym, ap, ◌∙◌}
use Rattle.std.specs.List.{slice_get}
use Rattle.std.specs.Option.{option_and_then, option_map}
use Rattle.std.proofs.lemmas.Option.{slice_get-map}
use Rattle.form_tree.specs.declared.node.Key.{Key}
use Rattle.form_tree.specs.Tree.{Nodes, at_key, place_of}
use Rattle.form_page.specs.declared.sight.Sight.{Sight}
use Rattle.form_page.specs.Views.{sight_if}
use Rattle.form_select.proofs.Laws.{placed_node, unplaced}

abbrev itself : Option Sight → Option Sight
itself sight = sight

pub sight_placed : (names : List (List ℕ)) (ns : Nodes) (k : Key) (i : ℕ) (sights : List (Option Sight)) → sights ≡ map (sight_if names ns) ns → Some i ≡ place_of ns k → option_and_then (λ sight. sight) (slice_get sights i) ≡ option_and_then (sight_if names ns) (at_key ns k)
sight_placed names ns k i sights stand placed =
    let met = placed_node ns k i placed in
    ap (option_and_then itself) (ap (λ (kept : List (Option Sight)). slice_get kept i) stand ∙ slice_get-map (sight_if names ns) ns i ∙ ap (option_map (sight_if names ns)) met.1)
    ∙ sym (ap (option_and_then (sight_if names ns)) met.2)

pub sight_unplaced : (names : List (List ℕ)) (ns : Nodes) (k : Key) → None ≡ place_of ns k → None ≡ option_and_then (sight_if names ns) (at_key ns k)
sight_unplaced names ns k none = sym (ap (option_and_then (sight_if names ns)) (unplaced ns k none))
