-- A text that begins with a front.
use Rattle.std.specs.Prelude.{List, ℕ, nat_eq, length, take, drop, Option, Some, None, if◌then◌else◌}
use Rattle.std.specs.Cmp.Lexicographic.{pointwise}

-- what stands behind the front, where the text begins with it
abbrev pub behind : List ℕ → List ℕ → Option (List ℕ)
behind front text =
    if pointwise nat_eq (take (length front) text) front
    then Some (drop (length front) text) else None
