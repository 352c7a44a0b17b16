-- The bytes that a script gives a meaning to, by name, beside those of form_text.
use Rattle.std.specs.Prelude.{ℕ}

-- `b'\t'`
abbrev pub tab : ℕ
tab = 9

-- `b','`
abbrev pub comma : ℕ
comma = 44

-- `b'@'`
abbrev pub commercial_at : ℕ
commercial_at = 64

-- `b'\\'`
abbrev pub backslash : ℕ
backslash = 92

-- `b'0'`
abbrev pub zero_digit : ℕ
zero_digit = 48

-- `b'_'`
abbrev pub low_line : ℕ
low_line = 95

-- `b'n'`
abbrev pub lower_n : ℕ
lower_n = 110

-- `b'r'`
abbrev pub lower_r : ℕ
lower_r = 114

-- `b't'`
abbrev pub lower_t : ℕ
lower_t = 116

-- `b'u'`
abbrev pub lower_u : ℕ
lower_u = 117

-- `b'{'`
abbrev pub left_brace : ℕ
left_brace = 123

-- `b'}'`
abbrev pub right_brace : ℕ
right_brace = 125

-- U+0020, below which a character is a control character
abbrev pub first_shown : ℕ
first_shown = 0x20

-- U+007F
abbrev pub delete : ℕ
delete = 0x7F
