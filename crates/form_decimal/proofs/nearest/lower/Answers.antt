use Rattle.std.proofs.Common.{sym, ◌∙◌}
use Rattle.form_decimal.proofs.ChoiceLemmas.{lower_none, lower_found, lt_true, lt_false, below_is}
use Rattle.form_decimal.proofs.nearest.lower.Goals as goal

pub returns-then-lt-clause-none : goal.returns-then-lt-clause-none
returns-then-lt-clause-none c =
    lower_none c.args.n c.args.base c.args.step c.args.low c.args.top c.smaller.result c.in-Some.found c.smaller.ensures.greatest c.in-Some.ensures.some
    (lt_true c.in-Some.found c.args.low (sym (below_is c.in-Some.found c.args.low) ∙ sym c.lt.ensures ∙ c.if-lt.true))

pub returns-clause-some : goal.returns-clause-some
returns-clause-some c =
    lower_found c.args.n c.args.base c.args.step c.args.low c.args.top c.smaller.result c.in-Some.found c.smaller.ensures.left c.smaller.ensures.right c.smaller.ensures.greatest c.in-Some.ensures.some
    (lt_false c.in-Some.found c.args.low (sym (below_is c.in-Some.found c.args.low) ∙ sym c.lt.ensures ∙ c.if-lt.false)) c.in-Some.ensures.fits
