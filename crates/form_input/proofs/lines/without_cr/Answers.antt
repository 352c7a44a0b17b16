use Rattle.std.proofs.Common.{Some, None, lit<}
use Rattle.std.proofs.lemmas.Str.Pattern.{strip_suffix_char}
use Rattle.form_input.proofs.CarriageReturns.{without_cr-stripped, without_cr-kept}
use Rattle.form_input.proofs.lines.without_cr.Goals as goal

pub returns-in-Some : goal.returns-in-Some
returns-in-Some c =
    without_cr-stripped _ _ (strip_suffix_char 13 c.args.line.now (Some c.in-Some.front) c.in-Some.ensures.cases (lit< tt))

pub returns-in-None : goal.returns-in-None
returns-in-None c = without_cr-kept _ (strip_suffix_char 13 c.args.line.now None c.in-None.ensures.cases (lit< tt))
