use Rattle.std.proofs.Common.{refl}
use Rattle.form_pending.proofs.Laws.{part_nothing}
use Rattle.form_run.proofs.serving.serve_act.Goals as goal

pub returns-in_err-text-in-Ok-clause-part : goal.returns-in_err-text-in-Ok-clause-part
returns-in_err-text-in-Ok-clause-part g c = part_nothing _ _ _ _ refl

pub returns-in-Err-Memory-clause-part : goal.returns-in-Err-Memory-clause-part
returns-in-Err-Memory-clause-part g c = part_nothing _ _ _ _ refl
