-- The changes of what is seen, place by place.
use Rattle.std.specs.Prelude.{◌&&◌, Bool, false, List, [], ◌∷◌, ◌++◌, Option, if◌then◌else◌}
use Rattle.std.specs.Option.{option_map, option_map_or}
use Rattle.form_tree.specs.declared.node.Key.{Key}
use Rattle.form_tree.specs.Elements.{same_key}
use Rattle.form_tree.specs.Tree.{Nodes}
use Rattle.form_judge.specs.Flags.{has_some}
use Rattle.form_page.specs.declared.sight.Sight.{Sight}
use Rattle.form_page.specs.Views.{same_views, view_by}

-- two sights look alike
abbrev pub same_sights : Option Sight → Option Sight → Bool
same_sights before after = same_views (option_map view_by before) (option_map view_by after)

-- the keys of the elements whose sights do not look alike
abbrev pub changed_keys : Nodes → List (Option Sight) → List (Option Sight) → List Key
changed_keys [] before after = []
changed_keys (n ∷ ns) [] after = []
changed_keys (n ∷ ns) (b ∷ before) [] = []
changed_keys (n ∷ ns) (b ∷ before) (a ∷ after) =
    (if same_sights b a then [] else n.key ∷ []) ++ changed_keys ns before after

-- a candidate with some flag
abbrev pub is_failing : Option Sight → Bool
is_failing sight = option_map_or (λ s. s.candidate && option_map_or has_some s.verdict false) sight false

-- an element of that owner that is such a candidate, for a form
abbrev pub counts_for : Key → Option Key → Option Sight → Bool
counts_for form owner sight = option_map_or (same_key form) owner false && is_failing sight
