use Rattle.std.proofs.Common.{arith, sym}
use Rattle.form_tokens.proofs.Parts.{clear_on}
use Rattle.form_tokens.proofs.writing.goes_on_from.Goals as goal

pub returns-then-clear-gt0 : goal.returns-then-clear-gt0
returns-then-clear-gt0 c = sym (clear_on c.args.context c.args.clear c.args.text.now (omega (arith, c.if-clear-gt0.true)) c.requires)
