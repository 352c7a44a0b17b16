-- The index behind a tree: an entry for each key number, which holds the place of that key.
use Rattle.std.specs.Prelude.{◌≡◌, ℕ, ◌-◌, nat_lt, ◌&&◌, nat_le, List, Option, None, Some, if◌then◌else◌}
use Rattle.std.specs.List.{slice_get}
use Rattle.std.specs.Option.{option_and_then}
use Rattle.form_tree.specs.declared.node.Key.{Key}
use Rattle.form_tree.specs.Tree.{Shape, place_in}

-- what the index says of a key
abbrev pub indexed : List (Option ℕ) → Key → Option ℕ
indexed index k = option_and_then (λ place. place) (slice_get index k.0)

-- the index agrees with the list, for every key
abbrev pub IsIndexOf : List (Option ℕ) → Shape → Type 0
IsIndexOf index s = (k : Key) → indexed index k ≡ place_in s k

-- the place of a key where the keys are 1, 2 and so on up to `count`
abbrev pub first_place : ℕ → Key → Option ℕ
first_place count k = if nat_lt 0 k.0 && nat_le k.0 count then Some (k.0 - 1) else None
