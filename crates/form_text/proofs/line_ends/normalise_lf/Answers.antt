use Rattle.form_text.proofs.LineEndLaws.{ends_lf}
use Rattle.form_text.proofs.line_ends.normalise_lf.Goals as goal

pub returns : goal.returns
returns c = rw (← ends_lf c.args.text.now) c.rewritten.ensures
