use Rattle.form_drafts.proofs.LikeLaws.{checked_next}
use Rattle.form_acts.proofs.marking.check.Goals as goal

pub take_radio-requires : goal.take_radio-requires
take_radio-requires c = checked_next c.args.page.now c.in_ok-draft.draft c.set_checked.new.draft c.args.key c.args.on c.in_ok-draft.ensures.draft c.in_ok-set_checked.ensures
