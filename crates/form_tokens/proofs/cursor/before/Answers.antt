use Rattle.std.proofs.Common.{length, arith}
use Rattle.memchr.specs.Find.{is_byte}
use Rattle.form_tokens.proofs.Numbers.{front_before}
use Rattle.form_tokens.proofs.cursor.before.Goals as goal

pub returns-in-Some-clause-value : goal.returns-in-Some-clause-value
returns-in-Some-clause-value c =
    front_before (is_byte c.args.byte) c.args.bytes.now c.in-Some.place (λ i lt h. c.in-Some.ensures.0.before i (omega arith) lt h) (λ lt. c.in-Some.ensures.1) (omega (arith, c.in-Some.ensures.0.high))

pub returns-in-None-clause-value : goal.returns-in-None-clause-value
returns-in-None-clause-value c =
    front_before (is_byte c.args.byte) c.args.bytes.now (length c.args.bytes.now) (λ i lt h. c.in-None.ensures i (omega arith) lt h) (λ lt. absurd (omega arith)) (omega arith)
