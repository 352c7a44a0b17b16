use Rattle.std.proofs.lemmas.Str.Pattern.{strip_prefix_char}
use Rattle.std.proofs.Common.{arith}
use Rattle.form_text.proofs.LineEndLaws.{behind_other}
use Rattle.form_text.proofs.line_ends.behind_line_end.Goals as goal

pub returns-in-None : goal.returns-in-None
returns-in-None c = behind_other _ _ c.if-newline-ne13.false (rw c.in-None.is at (strip_prefix_char 10 c.args.rest.now c.strip_prefix.result c.strip_prefix.ensures.cases (omega arith)))
