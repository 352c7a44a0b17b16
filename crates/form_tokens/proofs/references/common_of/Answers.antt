use Rattle.std.proofs.Common.{sym}
use Rattle.form_tokens.proofs.Frequent.{amp, lt, gt, quot}
use Rattle.form_tokens.proofs.references.common_of.Goals as goal

pub returns-then-starts_with : goal.returns-then-starts_with
returns-then-starts_with c = amp c.args.bytes.now (sym c.if-starts_with.ensures.value)

pub returns-then-starts_with-2 : goal.returns-then-starts_with-2
returns-then-starts_with-2 c = lt c.args.bytes.now (sym c.if-starts_with-2.ensures.value)

pub returns-then-starts_with-3 : goal.returns-then-starts_with-3
returns-then-starts_with-3 c = gt c.args.bytes.now (sym c.if-starts_with-3.ensures.value)

pub returns-then-starts_with-4 : goal.returns-then-starts_with-4
returns-then-starts_with-4 c = quot c.args.bytes.now (sym c.if-starts_with-4.ensures.value)
