-- The bytes of dates and times, by name.
use Rattle.std.specs.Prelude.{ℕ}

-- `b' '`
abbrev pub space : ℕ
space = 32

-- `b'-'`
abbrev pub hyphen : ℕ
hyphen = 45

-- `b'.'`
abbrev pub dot : ℕ
dot = 46

-- `b'0'`
abbrev pub digit_zero : ℕ
digit_zero = 48

-- `b':'`
abbrev pub colon : ℕ
colon = 58

-- `b'T'`
abbrev pub upper_t : ℕ
upper_t = 84
