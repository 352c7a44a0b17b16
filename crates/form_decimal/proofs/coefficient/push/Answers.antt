use Rattle.std.proofs.Common.{◌+◌, ◌*◌, ◌^◌, arith}
use Rattle.std.specs.Char.{digit_value}
use Rattle.form_decimal.proofs.SpellingLemmas.{true_digit}
use Rattle.form_decimal.proofs.ScalingLemmas.{step_ten}
use Rattle.form_decimal.proofs.coefficient.push.Goals as goal

pub returns-then-digit-eq48-clause-some : goal.returns-then-digit-eq48-clause-some
returns-then-digit-eq48-clause-some c =
    omega (arith, step_ten c.args.t.value c.args.t.zeros, (true_digit c.args.digit c.requires.digit).1)

pub returns-in_default-clause-none : goal.returns-in_default-clause-none
returns-in_default-clause-none c =
    let d = true_digit c.args.digit c.requires.digit in
    record {
      v = c.args.t.value * 10 ^ c.args.t.zeros * 10 + digit_value c.args.digit;
      z = 0;
      is = omega arith;
      long = omega (arith, step_ten c.args.t.value c.args.t.zeros, c.in_default.ensures.none);
      last = omega (arith, d);
    }

pub invariant_of-result-2 : goal.invariant_of-result-2
invariant_of-result-2 c =
    let d = true_digit c.args.digit c.requires.digit in
    record {
      last = λ _. omega (arith, d, step_ten c.args.t.value c.args.t.zeros, c.in-Some.ensures.some);
      below = omega (arith, d, step_ten c.args.t.value c.args.t.zeros, c.in-Some.ensures.some);
    }

pub returns-clause-some : goal.returns-clause-some
returns-clause-some c =
    let d = true_digit c.args.digit c.requires.digit in
    omega (arith, d, step_ten c.args.t.value c.args.t.zeros, c.in-Some.ensures.some)
