use Rattle.std.proofs.Common.{◌≡◌, arith, to_z, of_z}
use Rattle.std.specs.Int.{w128}
use Rattle.std.proofs.lemmas.Int.{ints}
use Rattle.form_decimal.proofs.FoldLemmas.{nearest_is, nearest_same}
use Rattle.form_decimal.proofs.nearest.nearest_aligned.Goals as goal

pub returns-clause-value : goal.returns-clause-value
returns-clause-value c =
    let step : to_z w128 (of_z w128 c.args.step) ≡ c.args.step = omega (arith, ints) in
    nearest_same c.args.n c.args.base c.args.step c.args.low c.args.high c.nearest_within.result _ (rw step at c.nearest_within.ensures.some, rw step at c.nearest_within.ensures.none)
    (nearest_is c.args.n c.args.base c.args.step c.args.low c.args.high c.requires.least)
