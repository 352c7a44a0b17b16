-- The limits of a generated page.
use Rattle.std.specs.Prelude.{ℕ}

-- the most controls of a generated page
abbrev pub most_generated : ℕ
most_generated = 5000

-- so many controls that follow each other are counted together: their radio buttons have one name
abbrev pub controls_of_a_group : ℕ
controls_of_a_group = 40
