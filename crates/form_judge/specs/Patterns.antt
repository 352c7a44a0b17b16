-- The compiled patterns of a page and those that a change has compiled anew, place by place. A pattern
-- is seen as its characters.
use Rattle.std.specs.Prelude.{ℕ, zero, suc, Bool, true, false, List, [], ◌∷◌, Option, Some, None, unwrap_or, if◌then◌else◌}
use Rattle.std.specs.Str.{bytes_eq}
use Rattle.form_tree.specs.declared.node.Node.{Node}
use Rattle.form_tree.specs.Tree.{Nodes}
use Rattle.form_judge.specs.Controls.{pattern_of, pattern_text}

-- the compiled pattern of an element, if it has one
abbrev pub Compiled : Type 0
Compiled = Option (List ℕ)

-- the one that was compiled anew, if one was
abbrev pub Fresh : Type 0
Fresh = Option Compiled

-- the patterns with those that were compiled anew
abbrev pub patterns_by : List Compiled → List Fresh → List Compiled
patterns_by [] fresh = []
patterns_by (kept ∷ patterns) [] = kept ∷ patterns
patterns_by (kept ∷ patterns) (fresh ∷ more) = unwrap_or fresh kept ∷ patterns_by patterns more

-- the patterns with that one at a place, where one was compiled anew for it
abbrev pub with_pattern_at : List Compiled → ℕ → Fresh → List Compiled
with_pattern_at [] place fresh = []
with_pattern_at (kept ∷ patterns) zero fresh = unwrap_or fresh kept ∷ patterns
with_pattern_at (kept ∷ patterns) (suc place) fresh = kept ∷ with_pattern_at patterns place fresh

-- both texts are not there, or they are the same
abbrev pub same_text : Option (List ℕ) → Option (List ℕ) → Bool
same_text None None = true
same_text None (Some b) = false
same_text (Some a) None = false
same_text (Some a) (Some b) = bytes_eq a b

-- The compiled pattern of a control that is another one than before, where the text of its attribute
-- is another than before; none where the text stays.
abbrev pub recompiled : Node → Node → Fresh
recompiled before after = if same_text (pattern_text before) (pattern_text after) then None else Some (pattern_of after)

-- what a change of the page has compiled anew of each element
abbrev pub all_recompiled : Nodes → Nodes → List Fresh
all_recompiled [] after = []
all_recompiled (b ∷ before) [] = []
all_recompiled (b ∷ before) (a ∷ after) = recompiled b a ∷ all_recompiled before after
