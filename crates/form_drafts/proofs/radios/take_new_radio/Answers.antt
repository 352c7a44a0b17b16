use Rattle.form_drafts.proofs.JoinedLaws.{none_joined}
use Rattle.form_drafts.proofs.LikeLaws.{none_moved}
use Rattle.form_drafts.proofs.radios.take_new_radio.Goals as goal

pub take_owned_radio-requires-clause-owners : goal.take_owned_radio-requires-clause-owners
take_owned_radio-requires-clause-owners c = none_moved c.args.draft.now.nodes c.args.draft.now.page.tree.nodes c.new-moved.result c.new-moved.ensures.empty c.requires

pub take_owned_radio-requires-clause-moved : goal.take_owned_radio-requires-clause-moved
take_owned_radio-requires-clause-moved c = none_joined c.new-moved.result c.deref.result.now c.new-moved.ensures.empty
