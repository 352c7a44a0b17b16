-- The words of flags, added one by one (the laws of proofs/PrintedLaws).
use Rattle.std.specs.Prelude.{Bool, List, [], if◌then◌else◌, length, ℕ, ◌++◌, ◌==◌, ◌∷◌}
use Rattle.form_text.specs.Bytes.{hyphen}
use Rattle.form_script.specs.Bytes.{comma}

-- the word behind the words before it, if its flag holds
abbrev pub with_word : Bool → List ℕ → List ℕ → List ℕ
with_word holds word words =
    if holds then (if length words == 0 then words ++ word else (words ++ (comma ∷ [])) ++ word) else words

-- all words of a table
abbrev pub with_words : List (Bool × List ℕ) → List ℕ → List ℕ
with_words [] words = words
with_words (row ∷ table) words = with_words table (with_word row.0 row.1 words)

-- `-` where there is no word
abbrev pub dashed : List ℕ → List ℕ
dashed words = if length words == 0 then words ++ (hyphen ∷ []) else words
