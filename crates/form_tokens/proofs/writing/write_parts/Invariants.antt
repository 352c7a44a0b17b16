use Rattle.std.proofs.Common.{◌≡◌, ◌++◌, ℕ, List, length, string_bytes}
use denote.Text.{Utf8}
use denote.Shadow.{shadow}
use Rattle.form_tokens.specs.Characters.{joined}
use Rattle.form_tokens.specs.Ahead.{AreParts, IsClear}
use Rattle.form_tokens.proofs.writing.write_parts.Given as goal

abbrev pub invariant-parts : goal.invariant-parts
invariant-parts l = ((parts : List (List ℕ)) × AreParts l.context parts l.text l.rest × (string_bytes l.out ≡ string_bytes l.fn.out ++ joined parts) × IsClear l.context l.clear l.rest) × shadow (Utf8 l.rest)

abbrev pub decreases-parts : goal.decreases-parts
decreases-parts l = length l.rest
