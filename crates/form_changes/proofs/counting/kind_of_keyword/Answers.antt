use Rattle.std.proofs.Common.{Some, refl}
use Rattle.form_judge.proofs.KindLaws.{email_is_text}
use Rattle.form_changes.proofs.counting.kind_of_keyword.Goals as goal

pub returns-in-Err : goal.returns-in-Err
returns-in-Err c = email_is_text (Some c.args.keyword.now) (c.in-Err.ensures.email.0 refl)
