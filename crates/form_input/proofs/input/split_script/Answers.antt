use Rattle.std.proofs.Common.{sym, ◌∙◌}
use Rattle.form_input.proofs.ScriptLines.{passed-start, passed-more, cut-before, page-found, commands-found, page-all, commands-none}
use Rattle.form_input.proofs.input.split_script.Goals as goal

pub split_at-requires : goal.split_at-requires
split_at-requires c = cut-before _ _ _ c.lines.invariant.0 c.in-Some.ensures.shorter c.lines.invariant.1

pub returns-then-is_script_line-clause-page : goal.returns-then-is_script_line-clause-page
returns-then-is_script_line-clause-page c = c.split_at.ensures.front ∙ page-found _ _ _ _ c.lines.invariant.0 c.in-Some.ensures.some (sym c.is_script_line.ensures ∙ c.if-is_script_line.true) c.in-Some.ensures.shorter

pub returns-then-is_script_line-clause-commands : goal.returns-then-is_script_line-clause-commands
returns-then-is_script_line-clause-commands c = commands-found _ _ _ _ c.lines.invariant.0 c.in-Some.ensures.some (sym c.is_script_line.ensures ∙ c.if-is_script_line.true) c.in-Some.ensures.shorter

pub lines-init : goal.lines-init
lines-init c = (passed-start _, c.utf8.text)

pub lines-preserved : goal.lines-preserved
lines-preserved c = (passed-more _ _ _ _ c.lines.invariant.0 c.in-Some.ensures.some (sym c.is_script_line.ensures ∙ c.if-is_script_line.false) c.in-Some.ensures.bytes c.in-Some.ensures.shorter, c.in-Some.ensures.text)

pub returns-clause-page : goal.returns-clause-page
returns-clause-page c = page-all _ _ c.lines.invariant.0 c.in_default.ensures.none

pub returns-clause-commands : goal.returns-clause-commands
returns-clause-commands c = commands-none _ _ c.lines.invariant.0 c.in_default.ensures.none
