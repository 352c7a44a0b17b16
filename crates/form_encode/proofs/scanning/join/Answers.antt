use Rattle.form_encode.proofs.SeamLaws.{joined-front}
use Rattle.form_encode.proofs.scanning.join.Goals as goal

pub returns-clause-joined : goal.returns-clause-joined
returns-clause-joined c = joined-front _ _ _ _ _ _ c.min-more.ensures c.front.ensures c.put.ensures
