use Rattle.std.proofs.Common.{◌≡◌, ℕ, List, length}
use denote.Shadow.{shadow}
use denote.Text.{Utf8}
use Rattle.form_tokens.specs.Kept.{kept_of}
use Rattle.form_tokens.specs.Attributes.{attribute_at, begins_attribute}
use Rattle.form_tokens.proofs.Many.{Many}
use Rattle.form_tokens.proofs.attributes.attributes_of.Given as goal

abbrev pub invariant-attributes : goal.invariant-attributes
invariant-attributes l = ((front : List (List ℕ × List ℕ)) × (l.attributes ≡ kept_of front) × Many attribute_at begins_attribute front l.rest l.text) × shadow (Utf8 l.rest)

abbrev pub decreases-attributes : goal.decreases-attributes
decreases-attributes l = length l.rest
