use Rattle.std.proofs.Common.{refl}
use Rattle.std.proofs.lemmas.Result.{on_ok_weaker}
use Rattle.form_submit.proofs.GatherLaws.{Gathers-none, Gathers-handed, GathersPart-handed}
use Rattle.form_submit.proofs.gatherer.Gatherer.make_room.Goals as goal

pub returns-then-has_room-clause-gathers : goal.returns-then-has_room-clause-gathers
returns-then-has_room-clause-gathers g c = Gathers-none _ _

pub returns-clause-gathers : goal.returns-clause-gathers
returns-clause-gathers g c =
    rw (← c.self.view_is) (on_ok_weaker c.hand_on.result (λ whole. Gathers-handed _ _ _ _ c.hand_on.ensures.none refl whole) c.hand_on.ensures.whole)

pub returns-clause-part : goal.returns-clause-part
returns-clause-part g c = rw (← c.self.view_is) (GathersPart-handed _ _ _ c.hand_on.ensures.part)
