use Rattle.std.proofs.Common.{◌≡◌, ◌≤◌, length}
use denote.Text.{Utf8}
use denote.Shadow.{shadow}
use Rattle.form_script.specs.Fitting.{some_fits}
use Rattle.form_script.specs.Reading.{text_in}
use Rattle.form_script.proofs.boundary.is_boundary_inside.Given as goal

abbrev pub invariant-steps : goal.invariant-steps
invariant-steps l = shadow (Utf8 l.rest) × (some_fits 0 (text_in l.inside) ≡ some_fits l.before (text_in l.rest)) × (l.before ≤ 70)

abbrev pub decreases-steps : goal.decreases-steps
decreases-steps l = length l.rest
