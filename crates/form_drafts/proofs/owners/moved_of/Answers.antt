use Rattle.std.proofs.Common.{get_or, refl}
use Rattle.form_drafts.proofs.MovedLaws.{moved_more, no_move}
use Rattle.form_drafts.proofs.owners.moved_of.Goals as goal

pub loop-change-preserved : goal.loop-change-preserved
loop-change-preserved c =
    moved_more c.args.moves.now c.loop-change.change-index no_move (get_or c.args.moves.now c.loop-change.change-index no_move) c.loop-change-test.true refl c.loop-change.moved c.insert.new.self c.in_ok-insert.ensures.updates.0 c.loop-change.invariant
