use Rattle.std.proofs.Common.{◌*◌, ap, sym, ◌∙◌, arith}
use Rattle.form_decimal.proofs.ScalingLemmas.{more_turns, step_ten}
use Rattle.form_decimal.proofs.scaling.raised.Goals as goal

pub returns-then-result-ge-CAP-clause-none : goal.returns-then-result-ge-CAP-clause-none
returns-then-result-ge-CAP-clause-none c =
    more_turns c.args.value c.loop-turn.turn c.args.by c.loop-turn.result c.loop-turn-test.true c.loop-turn.invariant.is c.if-result-ge-CAP.true

pub loop-turn-preserved : goal.loop-turn-preserved
loop-turn-preserved c = record {
  is = ap (λ x. x * 10) c.loop-turn.invariant.is ∙ sym (step_ten c.args.value c.loop-turn.turn);
  below = omega arith;
}
