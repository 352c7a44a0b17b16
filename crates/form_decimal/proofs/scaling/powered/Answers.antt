use Rattle.std.proofs.Common.{◌<◌, ◌%◌, arith}
use Rattle.form_decimal.proofs.ScalingLemmas.{too_far}
use Rattle.form_decimal.proofs.scaling.powered.Goals as goal

pub returns-then-by-ge-CAP-clause-none : goal.returns-then-by-ge-CAP-clause-none
returns-then-by-ge-CAP-clause-none c = λ m h.
    let last : 0 < c.args.t.value % 10 = c.args.t.last (omega arith) in
    too_far c.args.t.value c.args.t.zeros c.args.places _ _ m c.args.lowers last c.requires.zeros c.requires.places c.capped-by.ensures c.if-by-ge-CAP.true h
