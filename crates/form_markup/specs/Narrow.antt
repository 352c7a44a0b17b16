-- Elements inside which others are restricted at any depth.
use Rattle.std.specs.List.{list_any}
use Rattle.std.specs.Prelude.{Bool, List, [], ℕ, ◌||◌, ◌≡◌, ◌∷◌}
use Rattle.form_markup.specs.declared.machine.Open.{Open}
use Rattle.form_markup.specs.Faults.{is_inside, is_odd_in_optgroup, is_odd_in_select, is_tag}
use Rattle.form_tree.specs.declared.node.Tag.{Tag}
use Rattle.form_tree.specs.declared.node.Tag.TheVariants as tags

-- a select, an optgroup or an option
abbrev pub is_narrow : Tag → Bool
is_narrow tag = is_tag tags.Select tag || (is_tag tags.Optgroup tag || is_tag tags.Choice tag)

-- an element that may not stand inside one of these
abbrev pub is_odd_in_narrow : Tag → List ℕ → List Tag → Bool
is_odd_in_narrow tag name round =
    is_odd_in_select tag name round || (is_odd_in_optgroup tag round || is_inside tags.Choice round)

-- each open element is marked where it or one round it is one of these; the innermost stands first
abbrev pub AreMarked : List Open → Type 0
AreMarked [] = Unit {0}
AreMarked (o ∷ os) = (o.narrow ≡ list_any (λ x. is_narrow x.tag) (o ∷ os)) × AreMarked os
