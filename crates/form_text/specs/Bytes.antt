-- The bytes that the rules of forms give a meaning to, by name.
use Rattle.std.specs.Prelude.{ℕ}

-- `b'\n'`
abbrev pub line_feed : ℕ
line_feed = 10

-- `b'\r'`
abbrev pub carriage_return : ℕ
carriage_return = 13

-- `b' '`
abbrev pub space : ℕ
space = 32

-- `b'"'`
abbrev pub quote : ℕ
quote = 34

-- `b'#'`
abbrev pub number_sign : ℕ
number_sign = 35

-- `b'+'`
abbrev pub plus_sign : ℕ
plus_sign = 43

-- `b'-'`
abbrev pub hyphen : ℕ
hyphen = 45
