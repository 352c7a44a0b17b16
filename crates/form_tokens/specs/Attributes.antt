-- The attributes of a tag.
use Rattle.std.specs.Char.{to_ascii_lowercase}
use Rattle.std.specs.List.{list_any}
use Rattle.std.specs.Prelude.{Bool, List, Ok, Result, [], drop, if◌then◌else◌, length, map, nat_lt, take, ℕ, ◌&&◌, ◌++◌, ◌||◌, ◌∷◌}
use Rattle.form_text.specs.Bytes.{quote as quotation_mark, quote as quotation_mark, quote as quotation_mark}
use Rattle.form_tree.specs.Tree.{is_named}
use Rattle.form_tokens.specs.Bytes.{apostrophe, equals_sign}
use Rattle.form_tokens.specs.Characters.{decoded}
use Rattle.form_tokens.specs.Readers.{many, ◌>>=◌}
use Rattle.form_tokens.specs.Runs.{begins, begins_so, behind, behind_space, in_class, run_at, run_len}
use Rattle.form_tokens.specs.declared.TheConstants.{MOST_ATTRIBUTES, MOST_VALUE}
use Rattle.form_tokens.specs.declared.class.Class.TheVariants as classes
use Rattle.form_tokens.specs.declared.fault.Fault.{Fault}

unfoldable pub quoted_at : ℕ → List ℕ → Result (List ℕ × List ℕ) Fault
quoted_at quote text =
    behind quote (drop (run_len (classes.Quoted quote) text) text)
    >>= λ rest. Ok (take (run_len (classes.Quoted quote) text) text, rest)

-- a value in quotes or without
unfoldable pub value_at : List ℕ → Result (List ℕ × List ℕ) Fault
value_at text =
    if begins quotation_mark text then behind quotation_mark text >>= quoted_at quotation_mark
    else (if begins apostrophe text then behind apostrophe text >>= quoted_at apostrophe
    else run_at classes.Unquoted text)

-- whitespace, `=`, whitespace and a value; otherwise the value is empty and nothing is taken
unfoldable pub value_if_there : List ℕ → Result (List ℕ × List ℕ) Fault
value_if_there text =
    if begins equals_sign (behind_space text)
    then (behind equals_sign (behind_space text) >>= λ rest. value_at (behind_space rest))
    else Ok ([], text)

-- an attribute: its name, lower-cased over ASCII, and its value, decoded
unfoldable pub attribute_at : List ℕ → Result ((List ℕ × List ℕ) × List ℕ) Fault
attribute_at text = do
  name ← run_at classes.AttributeName (behind_space text)
  value ← value_if_there name.1
  bytes ← decoded value.0
  Ok ((map to_ascii_lowercase name.0, bytes), value.1)

-- at least one whitespace character, and then the name of an attribute
abbrev pub begins_attribute : List ℕ → Bool
begins_attribute text =
    nat_lt 0 (run_len classes.Space text) && begins_so (in_class classes.AttributeName) (behind_space text)

-- all attributes, as they are written
abbrev pub attributes_at : List ℕ → Result (List (List ℕ × List ℕ) × List ℕ) Fault
attributes_at text = many attribute_at begins_attribute (length text) text

-- the attributes of names that do not stand before: of two attributes of one name the first stays
abbrev pub firsts_behind : List (List ℕ × List ℕ) → List (List ℕ × List ℕ) → List (List ℕ × List ℕ)
firsts_behind before [] = []
firsts_behind before (attr ∷ attrs) =
    if list_any (is_named attr.0) before then firsts_behind before attrs
    else attr ∷ firsts_behind (before ++ (attr ∷ [])) attrs

-- a value that is longer than a value may be
abbrev pub is_long : List ℕ × List ℕ → Bool
is_long attr = nat_lt MOST_VALUE (length attr.1)

-- the tag is past a limit of its own: too many attributes as they are written, or a value that is too long
abbrev pub is_oversized : List (List ℕ × List ℕ) → Bool
is_oversized attrs = nat_lt MOST_ATTRIBUTES (length attrs) || list_any is_long attrs
