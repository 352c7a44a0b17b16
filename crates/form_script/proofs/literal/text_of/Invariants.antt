use Rattle.std.proofs.Common.{◌≡◌, ◌++◌, length, option_map, string_bytes}
use denote.Text.{Utf8}
use denote.Shadow.{shadow}
use Rattle.form_script.specs.Reading.{text_in}
use Rattle.form_script.proofs.literal.text_of.Given as goal

abbrev pub invariant-steps : goal.invariant-steps
invariant-steps l = shadow (Utf8 l.rest) × (text_in l.inside ≡ option_map (λ text. string_bytes l.text ++ text) (text_in l.rest))

abbrev pub decreases-steps : goal.decreases-steps
decreases-steps l = length l.rest
