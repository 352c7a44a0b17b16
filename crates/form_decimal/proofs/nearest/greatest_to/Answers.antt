use Rattle.std.proofs.Common.{◌≡◌, arith, to_z, of_z}
use Rattle.std.specs.Int.{w128}
use Rattle.std.proofs.lemmas.Int.{ints}
use Rattle.form_decimal.proofs.ChoiceLemmas.{greatest_found, units_some, units_none}
use Rattle.form_decimal.proofs.nearest.greatest_to.Goals as goal

pub returns-clause-some : goal.returns-clause-some
returns-clause-some c =
    let l : to_z w128 (of_z w128 c.units.result) ≡ c.args.limit = omega (arith, ints, c.units.ensures.value, c.units.ensures.bound) in
    let b : to_z w128 (of_z w128 c.units-2.result) ≡ c.args.base = omega (arith, ints, c.units-2.ensures.value, c.units-2.ensures.bound) in
    let s : to_z w128 (of_z w128 c.units-3.result) ≡ c.args.step = omega (arith, ints, c.units-3.ensures, c.requires.least, c.requires.greatest) in
    let below = rw l at c.at_or_below.ensures.below in
    let near = rw (l, s) at c.at_or_below.ensures.near in
    let u : to_z w128 (of_z w128 c.at_or_below.result) ≡ c.at_or_below.result = omega (arith, ints, below, near, c.units.ensures.value, c.units.ensures.bound, c.requires.greatest) in
    let g = greatest_found c.args.base c.args.step c.args.limit c.at_or_below.result c.requires.least (rw (b, s) at c.at_or_below.ensures.aligned) below near in
    units_some c.args.base c.args.step c.args.limit c.at_or_below.result c.of_units.result g (rw u at c.of_units.ensures.value)

pub returns-clause-none : goal.returns-clause-none
returns-clause-none c =
    let l : to_z w128 (of_z w128 c.units.result) ≡ c.args.limit = omega (arith, ints, c.units.ensures.value, c.units.ensures.bound) in
    let b : to_z w128 (of_z w128 c.units-2.result) ≡ c.args.base = omega (arith, ints, c.units-2.ensures.value, c.units-2.ensures.bound) in
    let s : to_z w128 (of_z w128 c.units-3.result) ≡ c.args.step = omega (arith, ints, c.units-3.ensures, c.requires.least, c.requires.greatest) in
    let below = rw l at c.at_or_below.ensures.below in
    let near = rw (l, s) at c.at_or_below.ensures.near in
    let u : to_z w128 (of_z w128 c.at_or_below.result) ≡ c.at_or_below.result = omega (arith, ints, below, near, c.units.ensures.value, c.units.ensures.bound, c.requires.greatest) in
    let g = greatest_found c.args.base c.args.step c.args.limit c.at_or_below.result c.requires.least (rw (b, s) at c.at_or_below.ensures.aligned) below near in
    units_none c.args.base c.args.step c.args.limit c.at_or_below.result c.of_units.result g (rw c.units.ensures.value at c.units.ensures.bound) (rw u at c.of_units.ensures.some).1
