use Rattle.std.specs.Prelude.{ℕ, nat_lt, List, sum_by, chars, if◌then◌else◌}

-- the code units of a character: two, a pair of surrogates, from U+10000 on
abbrev pub code_units : ℕ → ℕ
code_units c = if nat_lt c 0x1_0000 then 1 else 2

-- The length of a text: the number of its UTF-16 code units (Infra, "length" of a string).
abbrev pub utf16_length : List ℕ → ℕ
utf16_length text = sum_by code_units (chars text)
