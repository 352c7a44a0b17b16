use Rattle.std.proofs.Common.{◌+◌, ◌*◌, ◌^◌, ap, subst, sym, ◌∙◌, get_or, arith}
use Rattle.std.specs.Char.{digit_value}
use Rattle.form_decimal.specs.Scaled.{IsBig}
use Rattle.form_decimal.proofs.ScalingLemmas.{digit_at, value_more, big_at}
use Rattle.form_decimal.proofs.coefficient.more.Goals as goal

pub push-requires-clause-digit : goal.push-requires-clause-digit
push-requires-clause-digit c = digit_at c.args.digits.now c.loop-d.d-index c.requires.digits (omega arith)

pub returns-in_default-clause-none : goal.returns-in_default-clause-none
returns-in_default-clause-none c =
    let digit = digit_value (get_or c.args.digits.now c.loop-d.d-index 0) in
    big_at c.args.digits.now c.loop-d.d-index (c.args.t.value * 10 ^ c.args.t.zeros) (omega arith) c.requires.digits
    (subst (λ x. IsBig (x * 10 + digit)) c.loop-d.invariant.is c.in_default.ensures.none)

pub loop-d-preserved : goal.loop-d-preserved
loop-d-preserved c = record {
  is =
      let digit = digit_value (get_or c.args.digits.now c.loop-d.d-index 0) in
      c.in-Some.ensures.some ∙ ap (λ x. x * 10 + digit) c.loop-d.invariant.is
      ∙ sym (value_more c.args.digits.now c.loop-d.d-index (c.args.t.value * 10 ^ c.args.t.zeros) (omega arith));
  bound = omega (arith, c.in-Some.ensures.bound);
}
