-- What value sanitization makes of a text, where it is more than taking bytes away.
use Rattle.std.specs.Prelude.{◌≡◌, ◌⊎◌, ℕ, ◌==◌, ◌&&◌, Bool, false, List, [], ◌∷◌, map, length, Option, Some, None, option_and_then, unwrap_or, codes, if◌then◌else◌, ℤ}
use Rattle.std.specs.List.{list_all}
use Rattle.std.specs.Char.{to_ascii_lowercase, is_ascii_hexdigit}
use Rattle.form_text.specs.Bytes.{number_sign}
use Rattle.form_calendar.specs.LocalDateTime.{IsValidLocal, local_number, local_text}
use Rattle.form_calendar.specs.Shortest.{IsShortestLocal}

-- the text where it has a number, and else nothing
abbrev pub kept_if_number : Option ℤ → List ℕ → List ℕ
kept_if_number (Some n) text = text
kept_if_number None text = []

-- `#` and six hexadecimal digits (HTML, "Colors": a valid simple color)
abbrev pub is_simple_color : List ℕ → Bool
is_simple_color [] = false
is_simple_color (b ∷ bs) = (b == number_sign) && (length bs == 6) && list_all is_ascii_hexdigit bs

-- a simple colour in lower case, or else black
abbrev pub color_sanitised : List ℕ → List ℕ
color_sanitised text = if is_simple_color text then map to_ascii_lowercase text else codes "#000000"

-- the normalised form of a valid local date and time string, or else nothing
abbrev pub local_sanitised : List ℕ → List ℕ
local_sanitised text = unwrap_or (option_and_then local_text (local_number text)) []

-- a text with a number stays, and another text becomes empty
abbrev pub IsKeptIfValid : (List ℕ → ℤ → Type 0) → List ℕ → List ℕ → Type 0
IsKeptIfValid HasNumber text result =
    (((n : ℤ) × HasNumber text n) × (result ≡ text))
    ⊎ (((n : ℤ) → HasNumber text n → ⊥) × (result ≡ []))

-- a valid local date and time string becomes its normalised form, and another text becomes empty
abbrev pub IsNormalised : List ℕ → List ℕ → Type 0
IsNormalised text result =
    ((n : ℤ) × (IsValidLocal text n × IsShortestLocal result n))
    ⊎ (((n : ℤ) → IsValidLocal text n → ⊥) × (result ≡ []))
