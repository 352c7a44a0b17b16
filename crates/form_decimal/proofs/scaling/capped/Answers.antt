use Rattle.std.proofs.Common.{inr, arith, get_or}
use Rattle.std.proofs.lemmas.Int.Digits.{digits_value_more}
use Rattle.form_decimal.proofs.SpellingLemmas.{true_digit}
use Rattle.form_decimal.proofs.ScalingLemmas.{digit_at, value-take-le}
use Rattle.form_decimal.proofs.scaling.capped.Goals as goal

pub returns-then-value-ge-CAP : goal.returns-then-value-ge-CAP
returns-then-value-ge-CAP c =
    inr (omega arith, omega (arith, c.loop-d.invariant, value-take-le c.args.digits.now c.loop-d.d-index))

pub overflow_sub-value : goal.overflow_sub-value
overflow_sub-value c =
    (true_digit _ (digit_at c.args.digits.now c.loop-d.d-index c.requires (omega arith))).2

pub loop-d-preserved : goal.loop-d-preserved
loop-d-preserved c =
    let d = true_digit (get_or c.args.digits.now c.loop-d.d-index 0) (digit_at c.args.digits.now c.loop-d.d-index c.requires (omega arith)) in
    omega (arith, d.1, d.2, c.loop-d.invariant, digits_value_more 10 c.args.digits.now c.loop-d.d-index (omega arith))
