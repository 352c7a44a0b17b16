-- The limits of an input.
use Rattle.std.specs.Prelude.{ℕ, ◌+◌}

-- the most bytes that an input may have, 16 MiB
abbrev pub most_input : ℕ
most_input = 16_777_216

-- one byte more
abbrev pub too_many : ℕ
too_many = most_input + 1
