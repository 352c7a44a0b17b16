use Rattle.std.proofs.Common.{sym}
use Rattle.form_script.proofs.LiteralLaws.{last_begins, text_bare_last}
use Rattle.form_script.proofs.literal.last.Goals as goal

pub returns-then-has-clause-begins : goal.returns-then-has-clause-begins
returns-then-has-clause-begins c = text_bare_last c.args.inside.now c.requires (sym c.if-has.ensures)

pub returns-clause-begins : goal.returns-clause-begins
returns-clause-begins c = last_begins c.args.inside.now c.requires (sym c.if-has.ensures)
