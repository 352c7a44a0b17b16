-- Which bytes a source gave during several calls.
use Rattle.std.specs.Prelude.{◌≡◌, ℕ, ◌+◌, List, length, Option}
use Rattle.std.specs.Io.KnownBytes.{prepend_known}

-- a source gave these bytes
pub record Gave (held left : Option (List ℕ)) (before now : ℕ) (bytes : List ℕ) : Type 0 where
  pub held_is : held ≡ prepend_known bytes left
  pub count_is : now ≡ before + length bytes
