use Rattle.std.proofs.Common.{get_or, ◌∙◌}
use Rattle.form_drafts.specs.Resetting.{with_reset}
use Rattle.form_drafts.proofs.DraftLaws.{fold_next, no_key}
use Rattle.form_drafts.proofs.LikeLaws.{like_next}
use Rattle.form_drafts.proofs.resetting.reset_all.Goals as goal

pub loop-key-preserved : goal.loop-key-preserved
loop-key-preserved c = record {
  made = fold_next with_reset c.loop-key.draft c.reset_one.new.draft c.args.keys.now c.loop-key.key-index c.loop-key-test.true c.in_ok-reset_one.ensures ∙ c.loop-key.invariant.made;
  like = like_next c.loop-key.draft c.reset_one.new.draft (get_or c.args.keys.now c.loop-key.key-index no_key) c.in_ok-reset_one.ensures c.loop-key.invariant.like;
}
