-- The bytes that markup gives a meaning to, by name, beside those of form_text.
use Rattle.std.specs.Prelude.{ℕ}

-- `b'\t'`
abbrev pub tab : ℕ
tab = 9

-- `b'\x0C'`
abbrev pub form_feed : ℕ
form_feed = 12

-- `b'!'`
abbrev pub exclamation_mark : ℕ
exclamation_mark = 33

-- `b'&'`
abbrev pub ampersand : ℕ
ampersand = 38

-- `b'\''`
abbrev pub apostrophe : ℕ
apostrophe = 39

-- `b'/'`
abbrev pub solidus : ℕ
solidus = 47

-- `b';'`
abbrev pub semicolon : ℕ
semicolon = 59

-- `b'<'`
abbrev pub less_than : ℕ
less_than = 60

-- `b'='`
abbrev pub equals_sign : ℕ
equals_sign = 61

-- `b'>'`
abbrev pub greater_than : ℕ
greater_than = 62

-- `b'X'`
abbrev pub upper_x : ℕ
upper_x = 88

-- `b'`'`
abbrev pub grave_accent : ℕ
grave_accent = 96

-- `b'x'`
abbrev pub lower_x : ℕ
lower_x = 120

-- U+00A0
abbrev pub no_break_space : ℕ
no_break_space = 160
