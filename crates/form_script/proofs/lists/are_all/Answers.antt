use Rattle.std.proofs.Common.{◌∙◌, rules}
use Rattle.form_script.specs.Spelled.{passes}
use Rattle.form_script.proofs.LineLaws.{pass_cut, pass_last, pass_not, rest_short}
use Rattle.form_script.proofs.lists.are_all.Goals as goal

pub returns-then-not-is_spelled : goal.returns-then-not-is_spelled
returns-then-not-is_spelled c = pass_not (passes c.args.part) _ c.words.rest.now c.in-Some.word.now c.in-Some.behind.now c.words.invariant.1 c.in-Some.ensures c.if-not-is_spelled.ensures

pub words-smaller : goal.words-smaller
words-smaller c = rest_short c.words.rest.now c.in-Some.word.now c.in-Some.behind.now c.in-Some.ensures

pub words-preserved : goal.words-preserved
words-preserved c = (search rules, pass_cut (passes c.args.part) _ c.words.rest.now c.in-Some.word.now c.in-Some.behind.now c.words.invariant.1 c.in-Some.ensures c.if-not-is_spelled.ensures)

pub returns-in-None : goal.returns-in-None
returns-in-None c = c.is_spelled-in-None.ensures ∙ pass_last (passes c.args.part) _ c.words.rest.now c.words.invariant.1 c.in-None.ensures
