-- What holds of all elements that a text spells.
use Rattle.std.specs.Prelude.{◌≡◌, ℕ, suc, ◌+◌, ◌≤◌, false, List, [], ◌∷◌, ◌++◌, map, length, Option, Some, None}
use Rattle.std.specs.List.{All, slice_index}
use Rattle.form_tree.specs.declared.node.Raw.{Raw}
use Rattle.form_tree.specs.declared.node.Tag.{Tag}
use Rattle.form_markup.specs.Faults.{is_email}
use Rattle.form_tokens.specs.declared.TheConstants.{MOST_ATTRIBUTES, MOST_VALUE}
use Rattle.form_markup.specs.declared.TheConstants.{MOST_DEPTH, MOST_ELEMENTS}

-- the depth of an element, of which the depths of the elements before it are known: one at the top lies at depth 1,
-- and a child lies one deeper than its parent
abbrev pub depth_under : List ℕ → Option ℕ → ℕ
depth_under depths None = 1
depth_under depths (Some parent) = suc (slice_index depths parent)

-- the depths of elements, behind those of the elements before them
abbrev pub depths_behind : List ℕ → List (Option ℕ) → List ℕ
depths_behind before [] = []
depths_behind before (parent ∷ parents) =
    depth_under before parent ∷ depths_behind (before ++ (depth_under before parent ∷ [])) parents

-- the places of the elements' parents
abbrev pub parents_of : List Raw → List (Option ℕ)
parents_of raws = map (λ raw. raw.parent) raws

-- the depth of each element
abbrev pub depths_of : List Raw → List ℕ
depths_of raws = depths_behind [] (parents_of raws)

-- a value is no longer than a value may be
abbrev pub IsShort : List ℕ × List ℕ → Type 0
IsShort attr = length attr.1 ≤ MOST_VALUE

-- the elements are within the limits, inside as many elements as are open round the text
pub record IsWithinLimits (around : List Tag) (raws : List Raw) : Type 0 where
  pub elements : length raws ≤ MOST_ELEMENTS
  pub depth : All (λ depth. length around + depth ≤ MOST_DEPTH) (depths_of raws)
  pub attributes : All (λ raw. length raw.attrs ≤ MOST_ATTRIBUTES) raws
  pub values : All (λ raw. All IsShort raw.attrs) raws

-- no element is an input of the type `email`
abbrev pub HoldsNoEmail : List Raw → Type 0
HoldsNoEmail raws = All (λ raw. is_email raw.tag raw.attrs ≡ false) raws
