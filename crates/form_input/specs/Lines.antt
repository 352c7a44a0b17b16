-- Lines of a text: each ends with a line feed, and the last need not.
use Rattle.std.specs.Prelude.{ℕ, List, [], ◌∷◌, ◌++◌, ◌==◌, if◌then◌else◌}
use Rattle.std.specs.Str.Lines.{strip_carriage_return}

-- a line, and then more
abbrev pub line_then : List ℕ → List ℕ → List ℕ
line_then line more = line ++ 10 ∷ more

-- a line with its end
abbrev pub with_end : List ℕ → List ℕ
with_end line = line_then line []

-- the byte goes onto the first line
abbrev pub onto_first : ℕ → List (List ℕ) → List (List ℕ)
onto_first b [] = (b ∷ []) ∷ []
onto_first b (line ∷ lines) = (b ∷ line) ∷ lines

-- the lines, without their ends
unfoldable pub lines_of : List ℕ → List (List ℕ)
lines_of [] = []
lines_of (b ∷ bytes) = if b == 10 then [] ∷ lines_of bytes else onto_first b (lines_of bytes)

-- what a line says: the line without the one carriage return before its end, if it has one
unfoldable pub without_cr : List ℕ → List ℕ
without_cr line = strip_carriage_return line
