use Rattle.std.proofs.Common.{◌≡◌, arith, to_z, of_z}
use Rattle.std.specs.Int.{w64, w128}
use Rattle.std.proofs.lemmas.Int.{ints}
use Rattle.form_states.specs.Limits.{IsStep}
use Rattle.form_states.proofs.StepLemmas.{scaled_step}
use Rattle.form_states.proofs.limits.scaled.Goals as goal

pub returns-clause-step : goal.returns-clause-step
returns-clause-step c =
    let low = c.requires.scale.0 in
    let high = c.requires.scale.1 in
    let s : to_z w64 (of_z w64 c.args.scale) ≡ c.args.scale = omega (arith, ints, low, high) in
    let k : IsStep c.times.result = scaled_step c.args.n c.args.scale c.times.result (rw s at c.times.ensures.value) c.requires.positive c.times.ensures.bound c.requires.scale in
    let r : to_z w128 (of_z w128 c.times.result) ≡ c.times.result = omega (arith, ints, k.0, k.1) in
    rw r k
