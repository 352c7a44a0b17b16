use Rattle.std.proofs.Common.{get_or, ◌∙◌}
use Rattle.form_page.specs.Settling.{with_radio}
use Rattle.form_drafts.proofs.DraftLaws.{fold_next, no_key}
use Rattle.form_drafts.proofs.JoinedLaws.{like_taken}
use Rattle.form_drafts.proofs.LikeLaws.{owned_next}
use Rattle.form_drafts.proofs.radios.take_radios.Goals as goal

pub loop-key-preserved : goal.loop-key-preserved
loop-key-preserved c = record {
  made = fold_next with_radio c.loop-key.draft c.take_owned_radio.new.draft c.args.keys.now c.loop-key.key-index c.loop-key-test.true c.in_ok-take_owned_radio.ensures ∙ c.loop-key.invariant.made;
  owners = owned_next c.loop-key.draft c.take_owned_radio.new.draft (get_or c.args.keys.now c.loop-key.key-index no_key) c.args.moved.now c.in_ok-take_owned_radio.ensures c.loop-key.invariant.owners;
  like = like_taken c.loop-key.draft c.take_owned_radio.new.draft (get_or c.args.keys.now c.loop-key.key-index no_key) c.args.joined.now c.in_ok-take_owned_radio.ensures c.loop-key.invariant.like;
}
