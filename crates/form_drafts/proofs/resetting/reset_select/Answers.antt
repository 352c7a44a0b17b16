use Rattle.form_drafts.proofs.OptionLaws.{draft_reset}
use Rattle.form_drafts.proofs.resetting.reset_select.Goals as goal

pub returns : goal.returns
returns c = draft_reset c.settle.result c.args.draft.now c.reset_options.new.draft c.settle.new.draft c.args.select c.in_ok-options.options.items c.deref.result.now c.in_ok-options.ensures c.deref.ensures.value c.in_ok-reset_options.ensures c.settle.ensures
