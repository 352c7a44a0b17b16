use Rattle.std.proofs.Common.{◌≡◌, ap, ◌∙◌, arith, ◌-ℤ◌, to_z, of_z, eqb}
use Rattle.std.specs.Int.{int_rem_euclid, w128}
use Rattle.std.proofs.lemmas.Int.{ints}
use Rattle.form_decimal.proofs.AlignedLemmas.{test_aligned}
use Rattle.form_decimal.proofs.FoldLemmas.{aligned_decided}
use Rattle.form_decimal.proofs.alignment.aligned.Goals as goal

pub returns-clause-meaning : goal.returns-clause-meaning
returns-clause-meaning c =
    let difference : to_z w128 (of_z w128 (to_z w128 (of_z w128 c.units.result) -ℤ to_z w128 (of_z w128 c.units-2.result))) ≡ c.args.n -ℤ c.args.base =
    omega (arith, ints, c.units.ensures.value, c.units.ensures.bound, c.units-2.ensures.value, c.units-2.ensures.bound) in
    let step : to_z w128 (of_z w128 c.args.step) ≡ c.args.step = omega (arith, ints) in
    test_aligned c.args.n c.args.base c.args.step c.rem_euclid.result c.requires.least
    (c.rem_euclid.ensures.value ∙ ap (λ z. int_rem_euclid z (to_z w128 (of_z w128 c.args.step))) difference ∙ ap (int_rem_euclid (c.args.n -ℤ c.args.base)) step)

pub returns-clause-value : goal.returns-clause-value
returns-clause-value c = aligned_decided (eqb (of_z w128 c.rem_euclid.result) 0) c.args.n c.args.base c.args.step c.requires.least (returns-clause-meaning c)
