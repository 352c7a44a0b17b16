use Rattle.std.proofs.Common.{sym}
use Rattle.form_script.proofs.LiteralLaws.{bare_begins, escape_begins, wrong_begins}
use Rattle.form_script.proofs.literal.first_step.Goals as goal

pub returns-then-has-clause-begins : goal.returns-then-has-clause-begins
returns-then-has-clause-begins c = bare_begins c.args.inside.now c.in-Some.plain.now c.in-Some.escaped.now c.in-Some.ensures (sym c.if-has.ensures)

pub returns-in-Some-escape_of-clause-begins : goal.returns-in-Some-escape_of-clause-begins
returns-in-Some-escape_of-clause-begins c =
    (escape_begins c.args.inside.now c.in-Some.plain.now c.in-Some.escaped.now c.in-Some-escape_of.c c.in-Some-escape_of.rest.now c.in-Some.ensures (sym c.if-has.ensures) c.in-Some-escape_of.ensures).0

pub returns-in-Some-escape_of-clause-shorter : goal.returns-in-Some-escape_of-clause-shorter
returns-in-Some-escape_of-clause-shorter c =
    (escape_begins c.args.inside.now c.in-Some.plain.now c.in-Some.escaped.now c.in-Some-escape_of.c c.in-Some-escape_of.rest.now c.in-Some.ensures (sym c.if-has.ensures) c.in-Some-escape_of.ensures).1

pub returns-in-None-clause-begins : goal.returns-in-None-clause-begins
returns-in-None-clause-begins c = wrong_begins c.args.inside.now c.in-Some.plain.now c.in-Some.escaped.now c.in-Some.ensures (sym c.if-has.ensures) c.in-None.ensures
