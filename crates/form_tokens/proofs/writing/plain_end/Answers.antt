use Rattle.std.proofs.Common.{◌≡◌, arith, drop, sym}
use Rattle.form_tokens.specs.Characters.{shown_len}
use Rattle.form_tokens.proofs.Parts.{none_on}
use Rattle.form_tokens.proofs.writing.plain_end.Goals as goal

pub returns-clause-value : goal.returns-clause-value
returns-clause-value c = λ lt.
    let none : shown_len c.args.context (drop c.plain_len-count.result c.args.bytes.now) ≡ 0 = none_on c.args.context (drop c.plain_len-count.result c.args.bytes.now) (rw c.split_at.ensures.back at (sym c.if-goes_on_in.ensures)) in
    omega (arith, c.plain_len-count.ensures.value, none)
