-- References to characters.
use Rattle.std.specs.Prelude.{Bool, Err, List, Ok, Result, codes, drop, get_or, if◌then◌else◌, length, nat_le, nat_lt, not, true, ℕ, ◌-◌, ◌<◌, ◌≡◌, ◌≤◌, ◌&&◌, ◌||◌}
use Rattle.std.specs.Str.Parse.{digits_value}
use Rattle.std.specs.Str.{bytes_eq}
use Rattle.form_text.specs.Bytes.{number_sign, quote as quotation_mark, quote as quotation_mark, quote as quotation_mark}
use Rattle.form_tokens.specs.Bytes.{ampersand, apostrophe, greater_than, less_than, lower_x, no_break_space, semicolon, upper_x}
use Rattle.form_tokens.specs.Readers.{◌>>=◌}
use Rattle.form_tokens.specs.Runs.{begins, behind, run_at, run_len}
use Rattle.form_tokens.specs.declared.class.Class.TheVariants as classes
use Rattle.form_tokens.specs.declared.class.Class.{Class}
use Rattle.form_tokens.specs.declared.fault.Fault.TheVariants.{Lexical}
use Rattle.form_tokens.specs.declared.fault.Fault.{Fault}

-- a Unicode scalar value: no surrogate, and at most U+10FFFF
abbrev pub is_scalar : ℕ → Bool
is_scalar c = nat_lt c 0xD800 || (nat_le 0xE000 c && nat_le c 0x10_FFFF)

-- a character that a number may refer to: neither U+0000 nor U+0080 to U+009F
abbrev pub is_referred : ℕ → Bool
is_referred c = is_scalar c && (nat_lt 0 c && not (nat_le 128 c && nat_le c 159))

-- the character of a number
abbrev pub character : ℕ → Result ℕ Fault
character c = if is_referred c then Ok c else Err Lexical

-- digits and `;`
unfoldable pub number_at : ℕ → Class → List ℕ → Result (ℕ × List ℕ) Fault
number_at radix class text = do
  digits ← run_at class text
  rest ← behind semicolon digits.1
  c ← character (digits_value radix digits.0)
  Ok (c, rest)

-- what stands behind `&#`
unfoldable pub numeric_at : List ℕ → Result (ℕ × List ℕ) Fault
numeric_at text =
    if begins lower_x text then behind lower_x text >>= number_at 16 classes.Hexadecimal
    else (if begins upper_x text then behind upper_x text >>= number_at 16 classes.Hexadecimal
    else number_at 10 classes.Digit text)

-- the six names, case-sensitively
unfoldable pub named : List ℕ → Result ℕ Fault
named name =
    if bytes_eq name (codes "amp") then Ok ampersand
    else (if bytes_eq name (codes "lt") then Ok less_than
    else (if bytes_eq name (codes "gt") then Ok greater_than
    else (if bytes_eq name (codes "quot") then Ok quotation_mark
    else (if bytes_eq name (codes "apos") then Ok apostrophe
    else (if bytes_eq name (codes "nbsp") then Ok no_break_space else Err Lexical)))))

unfoldable pub named_at : List ℕ → Result (ℕ × List ℕ) Fault
named_at text = do
  name ← run_at classes.Alphanumeric text
  rest ← behind semicolon name.1
  c ← named name.0
  Ok (c, rest)

-- the character that a reference stands for; the text stands behind its `&`
unfoldable pub reference_at : List ℕ → Result (ℕ × List ℕ) Fault
reference_at text = if begins number_sign text then behind number_sign text >>= numeric_at else named_at text

-- behind `&` one or more letters and digits stand, and then `;`
abbrev pub begins_named : List ℕ → Bool
begins_named text =
    nat_lt 0 (run_len classes.Alphanumeric text) && begins semicolon (drop (run_len classes.Alphanumeric text) text)

-- a `&` before this text must be a reference; otherwise it is a character
unfoldable pub begins_reference : List ℕ → Bool
begins_reference text = begins number_sign text || begins_named text

-- a reference of so many bytes stands at the front, behind its `&`, for the character; its last byte is `;`
abbrev pub IsCommon : ℕ → ℕ → List ℕ → Type 0
IsCommon c count text =
    (reference_at text ≡ Ok (c, drop count text)) × (begins_named text ≡ true)
    × (0 < count) × (count ≤ length text) × (get_or text (count - 1) 0 ≡ semicolon)
