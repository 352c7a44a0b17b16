-- Half of what lies between two numbers.
use Rattle.std.specs.Prelude.{ℤ, pos, ◌+ℤ◌, ◌-ℤ◌, ◌≤ℤ◌, ◌<ℤ◌}

-- low and half of what is between, rounded down to a unit
abbrev pub IsHalfBetween : ℤ → ℤ → ℤ → Type 0
IsHalfBetween low high c =
    (((c -ℤ low) +ℤ (c -ℤ low)) ≤ℤ (high -ℤ low))
    × ((high -ℤ low) <ℤ (((c -ℤ low) +ℤ (c -ℤ low)) +ℤ pos 2))
