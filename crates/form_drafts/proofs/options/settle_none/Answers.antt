use Rattle.form_drafts.proofs.OptionLaws.{line_first, line_wide}
use Rattle.form_drafts.proofs.options.settle_none.Goals as goal

pub returns-then-not-is_one_line : goal.returns-then-not-is_one_line
returns-then-not-is_one_line c = line_wide c.args.draft.now c.args.select c.args.options.now c.if-not-is_one_line.ensures

pub returns : goal.returns
returns c = line_first c.select_first.result c.args.draft.now c.select_first.new.draft c.args.select c.args.options.now c.if-not-is_one_line.ensures c.select_first.ensures
