use Rattle.std.proofs.Common.{◌≡◌, arith, sym, ◌∙◌, to_z, of_z}
use Rattle.std.specs.Int.{w64}
use Rattle.std.proofs.lemmas.Int.{ints}
use Rattle.form_states.specs.Limits.{IsScale, IsDefaultStep}
use Rattle.form_states.proofs.StepLemmas.{scale_is, default_step_is}
use Rattle.form_states.proofs.limits.allowed_value_step.Goals as goal

pub step_by-requires-clause-scale : goal.step_by-requires-clause-scale
step_by-requires-clause-scale c =
    let k : IsScale c.in-Some.scale = scale_is c.args.kind c.in-Some.scale (sym c.scale.ensures ∙ c.in-Some.is) in
    let s : to_z w64 (of_z w64 c.in-Some.scale) ≡ c.in-Some.scale = omega (arith, ints, k.0, k.1) in
    rw s k

pub step_by-requires-clause-default : goal.step_by-requires-clause-default
step_by-requires-clause-default c =
    let n = c.in-Some-default_step.default in
    let k : IsDefaultStep n = default_step_is c.args.kind n (sym c.default_step.ensures ∙ c.in-Some-default_step.is) in
    let s : to_z w64 (of_z w64 n) ≡ n = omega (arith, ints, k.0, k.1) in
    rw s k
