use Rattle.std.proofs.Common.{lit<, sym}
use Rattle.form_input.proofs.LineBreaks.{lines_of-split, lines_of-no_split}
use Rattle.form_input.proofs.lines.first_line.Goals as goal

pub returns-in-Some-clause-some : goal.returns-in-Some-clause-some
returns-in-Some-clause-some c = lines_of-split _ _ _ (c.in-Some.ensures.byte (lit< tt) (λ w o f. f))

pub returns-in-None-clause-some : goal.returns-in-None-clause-some
returns-in-None-clause-some c =
    lines_of-no_split _ (sym c.if-is_empty.ensures) (c.in-None.ensures.byte (lit< tt) (λ w o f. f))
