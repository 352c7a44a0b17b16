use Rattle.std.proofs.Common.{◌≡◌, ap, ◌∙◌, arith, ◌-ℤ◌, to_z, of_z}
use Rattle.std.specs.Int.{int_rem_euclid, w128}
use Rattle.std.proofs.lemmas.Int.{ints}
use Rattle.form_decimal.proofs.AlignedLemmas.{aligned_below}
use Rattle.form_decimal.proofs.alignment.at_or_below.Goals as goal

pub returns-clause-aligned : goal.returns-clause-aligned
returns-clause-aligned c =
    let difference : to_z w128 (of_z w128 (to_z w128 (of_z w128 c.args.limit) -ℤ to_z w128 (of_z w128 c.args.base))) ≡ c.args.limit -ℤ c.args.base = omega (arith, ints) in
    let step : to_z w128 (of_z w128 c.args.step) ≡ c.args.step = omega (arith, ints) in
    aligned_below c.args.limit c.args.base c.args.step c.rem_euclid.result _ c.requires.least
    (c.rem_euclid.ensures.value ∙ ap (λ z. int_rem_euclid z (to_z w128 (of_z w128 c.args.step))) difference ∙ ap (int_rem_euclid (c.args.limit -ℤ c.args.base)) step)
    (omega (arith, ints, c.rem_euclid.ensures.lower_bound, c.rem_euclid.ensures.upper_bound))
