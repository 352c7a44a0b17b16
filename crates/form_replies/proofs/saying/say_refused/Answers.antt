use Rattle.std.proofs.Common.{refl}
use Rattle.form_pending.proofs.Laws.{part_nothing}
use Rattle.form_replies.proofs.saying.say_refused.Goals as goal

pub returns-in_err-line-clause-part : goal.returns-in_err-line-clause-part
returns-in_err-line-clause-part g c = part_nothing _ _ _ _ refl
