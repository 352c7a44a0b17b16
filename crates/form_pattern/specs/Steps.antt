-- How a tree goes over a value from its end: what it can do at a place, from what it could do at
-- the place behind.
use Rattle.std.specs.Prelude.{ℕ, Bool, true, false, ◌&&◌, ◌||◌, not, List, Option, Some, None, slice_get}
use Rattle.regex_class.specs.declared.Class.{Class}
use Rattle.regex_class.specs.Ranges.{in_ranges}
use Rattle.form_pattern.specs.declared.nodes.Seen.{Seen}
use Rattle.form_pattern.specs.Pieces.{Tree, unseen}
use Rattle.form_pattern.specs.Matching.{passes}

-- the characters of a leaf, by its place
abbrev pub table_has : List Class → ℕ → ℕ → Bool
table_has tables left c = elim (slice_get tables left) [ None ↦ false | Some t ↦ in_ranges t.ranges.items c ]

-- the tree with nothing noted
abbrev pub bare : Tree → Tree
bare Tree.nothing = Tree.nothing
bare (Tree.one left) = Tree.one left
bare Tree.start = Tree.start
bare Tree.finish = Tree.finish
bare (Tree.next behind a b) = Tree.next unseen (bare a) (bare b)
bare (Tree.either a b) = Tree.either (bare a) (bare b)
bare (Tree.many round a) = Tree.many false (bare a)
bare (Tree.ahead absent a) = Tree.ahead absent (bare a)

abbrev pub is_end : Option ℕ → Bool
is_end None = true
is_end (Some c) = false

-- whether the end can be reached through a tree, where k says whether it can be from behind it
abbrev pub goes : Seen → Bool → Bool
goes seen k = (seen.empty && k) || seen.on

abbrev pub flip : Bool → Bool → Bool
flip true b = not b
flip false b = b

abbrev pub see_next : Seen → Seen → Seen
see_next a b = record { empty = a.empty && b.empty; on = a.on || (a.empty && b.on) }

abbrev pub see_either : Seen → Seen → Seen
see_either a b = record { empty = a.empty || b.empty; on = a.on || b.on }

-- What the tree can do at a place, with the notes of the place behind, where k says whether from
-- there the end could be reached behind the tree.
abbrev pub see : (ℕ → ℕ → Bool) → Bool → Option ℕ → Bool → Tree → Seen
see has first here k Tree.nothing = record { empty = true; on = false }
see has first here k (Tree.one left) = record { empty = false; on = k && passes (has left) here }
see has first here k Tree.start = record { empty = first; on = false }
see has first here k Tree.finish = record { empty = is_end here; on = false }
see has first here k (Tree.next behind a b) = see_next (see has first here (goes behind k) a) (see has first here k b)
see has first here k (Tree.either a b) = see_either (see has first here k a) (see has first here k b)
see has first here k (Tree.many round a) = see has first here (k || round) a
see has first here k (Tree.ahead absent a) = record { empty = flip absent (goes (see has first here true a) true); on = false }

-- the tree with the notes of that place
abbrev pub step : (ℕ → ℕ → Bool) → Bool → Option ℕ → Bool → Tree → Tree
step has first here k Tree.nothing = Tree.nothing
step has first here k (Tree.one left) = Tree.one left
step has first here k Tree.start = Tree.start
step has first here k Tree.finish = Tree.finish
step has first here k (Tree.next behind a b) = Tree.next (see has first here k b) (step has first here (goes behind k) a) (step has first here k b)
step has first here k (Tree.either a b) = Tree.either (step has first here k a) (step has first here k b)
step has first here k (Tree.many round a) = Tree.many (see has first here (k || round) a).on (step has first here (k || round) a)
step has first here k (Tree.ahead absent a) = Tree.ahead absent (step has first here true a)
