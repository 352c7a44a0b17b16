use Rattle.std.proofs.lemmas.Result.{on_ok_weaker}
use Rattle.form_pending.proofs.SayingLaws.{flushed_part, flushed_then, part_lost}
use Rattle.form_pending.proofs.pending.say.Goals as goal

pub returns-in_err-flush-clause-part : goal.returns-in_err-flush-clause-part
returns-in_err-flush-clause-part g c = part_lost _ _ _ _ _ c.in_err-flush.ensures.part c.in_err-flush.ensures.empty

pub returns-then-saturating_sub-text-clause-said : goal.returns-then-saturating_sub-text-clause-said
returns-then-saturating_sub-text-clause-said g c =
    on_ok_weaker c.say_first.result (flushed_then _ _ _ _ _ _ c.in_ok-flush.ensures.whole) c.say_first.ensures.said

pub returns-then-saturating_sub-text-clause-part : goal.returns-then-saturating_sub-text-clause-part
returns-then-saturating_sub-text-clause-part g c = flushed_part _ _ _ _ _ _ c.in_ok-flush.ensures.whole c.say_first.ensures.part
