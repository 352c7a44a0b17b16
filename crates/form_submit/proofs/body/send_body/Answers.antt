use Rattle.std.proofs.Common.{arith, refl, ◌∙◌}
use Rattle.form_ports.proofs.Laws.{NoneFell-trans, NoneFell-same}
use Rattle.form_submit.proofs.SendLaws.{BodyGathers-none, BodyGathers-item, WroteBodyPart-item, WroteBody-end, WroteBodyPart-end, others-item, others-whole, BodyCause-item}
use Rattle.form_submit.proofs.SendLaws.{LastSizes-item, LastSizes-start, LastSizes-whole}
use Rattle.form_submit.proofs.body.send_body.Goals as goal

pub sending-init : goal.sending-init
sending-init g c = (refl, NoneFell-same _, λ k other. refl, rw c.new-gatherer.ensures (BodyGathers-none _ _), LastSizes-start _, omega arith)

pub sending-preserved : goal.sending-preserved
sending-preserved g c = (
  c.in-Ok.ensures.kept ∙ c.sending.invariant.0,
  NoneFell-trans _ _ _ c.sending.invariant.1 c.in-Ok.ensures.counts,
  others-item _ _ _ _ _ _ c.piece-item.is c.sending-test.true c.sending.invariant.2 c.in-Ok.ensures.others,
  BodyGathers-item _ _ _ _ _ _ _ _ _ _ c.piece-item.is c.sending-test.true c.sending.invariant.0 c.sending.invariant.3 c.in-Ok.ensures.gathers,
  LastSizes-item _ _ _ _ _ _ c.piece-item.is c.sending-test.true c.sending.invariant.4 c.in-Ok.ensures.others c.in-Ok.ensures.position,
  omega (arith, c.in-Ok.ensures.sink_later, c.sending.invariant.5),
)

pub returns-in-Err-clause-counts : goal.returns-in-Err-clause-counts
returns-in-Err-clause-counts g c = NoneFell-trans _ _ _ c.sending.invariant.1 c.in-Err.ensures.counts

pub returns-in-Err-clause-others : goal.returns-in-Err-clause-others
returns-in-Err-clause-others g c =
    others-whole _ _ _ _ (others-item _ _ _ _ _ _ c.piece-item.is c.sending-test.true c.sending.invariant.2 c.in-Err.ensures.others)

pub returns-in-Err-clause-part : goal.returns-in-Err-clause-part
returns-in-Err-clause-part g c =
    WroteBodyPart-item _ _ _ _ _ _ _ _ _ c.piece-item.is c.sending-test.true c.sending.invariant.0 c.requires.ready c.sending.invariant.3 c.in-Err.ensures.part

pub returns-in-Err-clause-cause : goal.returns-in-Err-clause-cause
returns-in-Err-clause-cause g c =
    BodyCause-item _ _ _ _ _ _ _ _ _ _ _ _ _ c.piece-item.is c.sending-test.true c.sending.invariant.0 c.sending.invariant.5 c.sending.invariant.1 c.in-Err.ensures.cause

pub returns-in-Ok-finish-clause-whole : goal.returns-in-Ok-finish-clause-whole
returns-in-Ok-finish-clause-whole g c =
    WroteBody-end _ _ _ _ _ _ _ (omega (arith, c.sending-test.false)) c.sending.invariant.3 c.in-Ok-finish.ensures.whole

pub returns-in-Ok-finish-clause-position : goal.returns-in-Ok-finish-clause-position
returns-in-Ok-finish-clause-position g c =
    LastSizes-whole _ _ _ (omega (arith, c.sending-test.false)) c.sending.invariant.4

pub returns-in-Ok-finish-clause-part : goal.returns-in-Ok-finish-clause-part
returns-in-Ok-finish-clause-part g c =
    WroteBodyPart-end _ _ _ _ _ _ _ (omega (arith, c.sending-test.false)) c.sending.invariant.3 c.in-Ok-finish.ensures.part

pub returns-in-Err-finish-clause-part : goal.returns-in-Err-finish-clause-part
returns-in-Err-finish-clause-part g c =
    WroteBodyPart-end _ _ _ _ _ _ _ (omega (arith, c.sending-test.false)) c.sending.invariant.3 c.in-Err-finish.ensures.part
