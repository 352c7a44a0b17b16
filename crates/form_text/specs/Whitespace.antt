-- ASCII whitespace is TAB, LF, FF, CR and space.
use Rattle.std.specs.Prelude.{ℕ, ◌-◌, Bool, true, false, List, [], ◌∷◌, ◌++◌, length, take, drop, filter, if◌then◌else◌}
use Rattle.std.specs.Char.{is_ascii_whitespace}
use Rattle.std.specs.List.{prefix_len, suffix_len, slice_split, join_with_byte}
use Rattle.form_text.specs.Bytes.{space}

-- the text from its first byte on that is no ASCII whitespace
abbrev pub without_leading_whitespace : List ℕ → List ℕ
without_leading_whitespace text = drop (prefix_len is_ascii_whitespace text) text

-- the text up to its last byte that is no ASCII whitespace
abbrev pub without_trailing_whitespace : List ℕ → List ℕ
without_trailing_whitespace text = take (length text - suffix_len is_ascii_whitespace text) text

-- Strip leading and trailing ASCII whitespace (Infra, "strip leading and trailing ASCII whitespace").
abbrev pub stripped : List ℕ → List ℕ
stripped text = without_trailing_whitespace (without_leading_whitespace text)

-- the text has a byte
abbrev pub is_not_empty : List ℕ → Bool
is_not_empty [] = false
is_not_empty (b ∷ rest) = true

-- the parts between ASCII whitespace that are not empty
abbrev pub words : List ℕ → List (List ℕ)
words text = filter is_not_empty (slice_split is_ascii_whitespace text)

-- a word behind what is written already, and a space between the two where that is not empty
abbrev pub written_word : List ℕ → List ℕ → List ℕ
written_word out word = (if is_not_empty out then out ++ space ∷ [] else out) ++ word

-- Strip and collapse ASCII whitespace: the words of the text with one space between each two
-- (Infra, "strip and collapse ASCII whitespace").
abbrev pub stripped_and_collapsed : List ℕ → List ℕ
stripped_and_collapsed text = join_with_byte space (words text)
