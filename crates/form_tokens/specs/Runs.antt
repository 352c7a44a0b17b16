-- The bytes that stand at the front of a text.
use Rattle.std.specs.Char.{is_ascii_alphanumeric, is_ascii_digit, is_ascii_hexdigit}
use Rattle.std.specs.List.{prefix_len}
use Rattle.std.specs.Prelude.{Bool, Err, List, Ok, Result, [], drop, false, if◌then◌else◌, nat_lt, not, take, ℕ, ◌<◌, ◌==◌, ◌||◌, ◌∷◌}
use Rattle.form_text.specs.Bytes.{hyphen, line_feed, space, quote as quotation_mark, quote as quotation_mark, quote as quotation_mark}
use Rattle.form_tokens.specs.Bytes.{ampersand, apostrophe, equals_sign, form_feed, grave_accent, greater_than, less_than, solidus, tab}
use Rattle.form_tokens.specs.declared.class.Class.TheVariants as classes
use Rattle.form_tokens.specs.declared.class.Class.{Class}
use Rattle.form_tokens.specs.declared.fault.Fault.TheVariants.{Lexical}
use Rattle.form_tokens.specs.declared.fault.Fault.{Fault}

-- TAB, LF, FF and space
abbrev pub is_space : ℕ → Bool
is_space b = (b == space) || (b == line_feed) || (b == tab) || (b == form_feed)

-- the bytes that no name of an attribute has, beside whitespace: `"`, `'`, `<`, `>`, `/`, `=`, `&` and U+0000
abbrev pub ends_attribute_name : ℕ → Bool
ends_attribute_name b =
    (b == quotation_mark) || (b == apostrophe) || (b == less_than) || (b == greater_than)
    || (b == solidus) || (b == equals_sign) || (b == ampersand) || (b == 0)

-- the bytes that no unquoted value has, beside whitespace: `"`, `'`, `=`, `<`, `>`, backtick and U+0000
abbrev pub ends_unquoted : ℕ → Bool
ends_unquoted b =
    (b == quotation_mark) || (b == apostrophe) || (b == equals_sign) || (b == less_than)
    || (b == greater_than) || (b == grave_accent) || (b == 0)

-- a byte of the class
abbrev pub in_class : Class → ℕ → Bool
in_class classes.Space b = is_space b
in_class classes.Name b = is_ascii_alphanumeric b || b == hyphen
in_class classes.AttributeName b = not (is_space b || ends_attribute_name b)
in_class classes.Unquoted b = not (is_space b || ends_unquoted b)
in_class (classes.Quoted quote) b = not ((b == quote) || (b == 0))
in_class classes.Alphanumeric b = is_ascii_alphanumeric b
in_class classes.Digit b = is_ascii_digit b
in_class classes.Hexadecimal b = is_ascii_hexdigit b

-- the quote of the class is ASCII
abbrev pub IsLow : Class → Type 0
IsLow (classes.Quoted quote) = quote < 128
IsLow class = Unit {0}

-- the text begins with a byte that passes the test
abbrev pub begins_so : (ℕ → Bool) → List ℕ → Bool
begins_so test [] = false
begins_so test (b ∷ bs) = test b

-- the text begins with this byte
abbrev pub begins : ℕ → List ℕ → Bool
begins b text = begins_so (λ x. x == b) text

-- what stands behind a byte
abbrev pub behind : ℕ → List ℕ → Result (List ℕ) Fault
behind b [] = Err Lexical
behind b (x ∷ xs) = if x == b then Ok xs else Err Lexical

-- how many bytes of the class stand at the front
abbrev pub run_len : Class → List ℕ → ℕ
run_len class text = prefix_len (in_class class) text

-- as many bytes of the class as there are, and at least one
unfoldable pub run_at : Class → List ℕ → Result (List ℕ × List ℕ) Fault
run_at class text =
    if nat_lt 0 (run_len class text) then Ok (take (run_len class text) text, drop (run_len class text) text)
    else Err Lexical

-- what stands behind whitespace, of which there may be none
abbrev pub behind_space : List ℕ → List ℕ
behind_space text = drop (run_len classes.Space text) text

-- another byte than this
abbrev pub is_other : ℕ → ℕ → Bool
is_other byte b = not (b == byte)
