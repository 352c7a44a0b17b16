use Rattle.std.proofs.Common.{◌≡◌, is_some, length}
use denote.Text.{Utf8}
use denote.Shadow.{shadow}
use Rattle.form_script.specs.Reading.{text_in}
use Rattle.form_script.proofs.literal.is_inside.Given as goal

abbrev pub invariant-steps : goal.invariant-steps
invariant-steps l = shadow (Utf8 l.rest) × (is_some (text_in l.rest) ≡ is_some (text_in l.inside))

abbrev pub decreases-steps : goal.decreases-steps
decreases-steps l = length l.rest
