use Rattle.std.proofs.Common.{sym, ◌∙◌}
use Rattle.form_decimal.proofs.ChoiceLemmas.{upper_found, lt_false, below_is}
use Rattle.form_decimal.proofs.nearest.upper.Goals as goal

pub returns-clause-some : goal.returns-clause-some
returns-clause-some c =
    upper_found c.args.n c.args.base c.args.step c.args.low c.args.top c.greater.result c.in-Some.found c.greater.ensures.left c.greater.ensures.right c.greater.ensures.least c.in-Some.ensures.some
    (lt_false c.args.top c.in-Some.found (sym (below_is c.args.top c.in-Some.found) ∙ sym c.lt.ensures ∙ c.if-lt.false)) c.in-Some.ensures.fits
