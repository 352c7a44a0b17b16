use Rattle.form_drafts.proofs.JoinedLaws.{others_done}
use Rattle.form_drafts.proofs.LikeLaws.{radio_still}
use Rattle.form_drafts.proofs.radios.take_owned_radio.Goals as goal

pub returns-then-not-is_checked_at : goal.returns-then-not-is_checked_at
returns-then-not-is_checked_at c = radio_still c.args.draft.now c.args.key c.if-not-is_checked_at.ensures

pub returns : goal.returns
returns c = others_done c.uncheck_all.result c.args.draft.now c.uncheck_all.new.draft c.args.key c.in_ok-others.others.items c.deref.result.now c.if-not-is_checked_at.ensures c.in_ok-others.ensures c.deref.ensures.value c.uncheck_all.ensures
