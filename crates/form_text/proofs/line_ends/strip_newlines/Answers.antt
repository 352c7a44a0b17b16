use Rattle.form_text.proofs.LineEndLaws.{ends_removed}
use Rattle.form_text.proofs.line_ends.strip_newlines.Goals as goal

pub returns : goal.returns
returns c = rw (← ends_removed c.args.text.now) c.rewritten.ensures
