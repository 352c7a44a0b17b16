-- The bytes of numerals, by name.
use Rattle.std.specs.Prelude.{ℕ}

-- `b'+'`
abbrev pub plus_sign : ℕ
plus_sign = 43

-- `b'-'`
abbrev pub hyphen : ℕ
hyphen = 45

-- `b'.'`
abbrev pub dot : ℕ
dot = 46

-- `b'0'`
abbrev pub digit_zero : ℕ
digit_zero = 48

-- `b'E'`
abbrev pub upper_e : ℕ
upper_e = 69

-- `b'e'`
abbrev pub lower_e : ℕ
lower_e = 101
