-- Whether a text compiles, and whether it matches a whole value, as truth values that the
-- definitions of other crates cite. They go the way of the code; proofs/Laws says that they are
-- what `Compiles` and `MatchesWhole` say.
use Rattle.std.specs.Prelude.{ℕ, ◌==◌, Bool, true, false, List, [], ◌∷◌, length, Option, Some, None, if◌then◌else◌}
use Rattle.std.specs.Option.{option_and_then}
use Rattle.form_pattern.specs.declared.tokens.Token.{Token}
use Rattle.form_pattern.specs.declared.tokens.Token.TheVariants as token
use Rattle.form_pattern.specs.Membership.{chars_have}
use Rattle.form_pattern.specs.Reading.{tokens}
use Rattle.form_pattern.specs.Grouping.{read}
use Rattle.form_pattern.specs.Pieces.{Tree, Light, pieces}
use Rattle.form_pattern.specs.Steps.{goes, see, step}

-- what is made of a text: nothing outside the grammar
unfoldable pub piece_at : List ℕ → Option Light
piece_at text = option_and_then (λ ts. read pieces ts) (tokens (length text) text)

-- a weight and a tree are there, so it is at most 2,000
abbrev pub is_light : Option Light → Bool
is_light None = false
is_light (Some None) = false
is_light (Some (Some a)) = true

-- the text compiles
unfoldable pub does_compile : List ℕ → Bool
does_compile text = is_light (piece_at text)

-- the characters of a token
abbrev pub token_has : Token → ℕ → Bool
token_has (token.Chars cs) c = chars_have cs c
token_has _ c = false

-- the characters of the token behind which so many stand
abbrev pub tokens_have : List Token → ℕ → ℕ → Bool
tokens_have [] left c = false
tokens_have (t ∷ ts) left c = if left == length ts then token_has t c else tokens_have ts left c

abbrev pub is_nil : List ℕ → Bool
is_nil [] = true
is_nil (c ∷ cs) = false

-- the tree with its notes at the front of the rest of a value, before which something stands
abbrev pub noted : (ℕ → ℕ → Bool) → List ℕ → Tree → Tree
noted has [] t = step has false None false t
noted has (c ∷ cs) t = step has false (Some c) (is_nil cs) (noted has cs t)

-- the tree matches the whole value
abbrev pub tree_matches : (ℕ → ℕ → Bool) → List ℕ → Tree → Bool
tree_matches has [] t = goes (see has true None false t) true
tree_matches has (c ∷ cs) t = goes (see has true (Some c) (is_nil cs) (noted has cs t)) false

abbrev pub light_matches : (ℕ → ℕ → Bool) → List ℕ → Option Light → Bool
light_matches has value None = false
light_matches has value (Some None) = false
light_matches has value (Some (Some a)) = tree_matches has value a.1

abbrev pub read_matches : List ℕ → Option (List Token) → Bool
read_matches value None = false
read_matches value (Some ts) = light_matches (tokens_have ts) value (read pieces ts)

-- the text compiles and matches the whole value
unfoldable pub does_match : List ℕ → List ℕ → Bool
does_match text value = read_matches value (tokens (length text) text)
