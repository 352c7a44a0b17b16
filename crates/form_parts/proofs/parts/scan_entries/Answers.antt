use Rattle.std.proofs.Common.{◌-◌, ◌∙◌, ap, refl}
use Rattle.form_ports.proofs.Laws.{Err-again, NoneFell-trans, NoneFell-same}
use Rattle.form_parts.proofs.PartLaws.{SoFar-none, SoFar-item, others-item, others-whole, there-item, StopsPast-item, SomeRose-item}
use Rattle.form_parts.proofs.parts.scan_entries.Goals as goal

pub scanning-init : goal.scanning-init
scanning-init g c = (refl, NoneFell-same _, λ k other. refl, rw c.new-sizes.ensures (SoFar-none _ _ _ _))

pub scan_part-requires-clause-there : goal.scan_part-requires-clause-there
scan_part-requires-clause-there g c =
    there-item _ _ _ _ _ c.entry-item.is c.scanning-test.true c.scanning.invariant.0 c.requires.there

pub scanning-preserved : goal.scanning-preserved
scanning-preserved g c = (
  c.in-Ok.ensures.kept ∙ c.scanning.invariant.0,
  NoneFell-trans _ _ _ c.scanning.invariant.1 c.in-Ok.ensures.counts,
  others-item _ _ _ _ _ _ c.entry-item.is c.scanning-test.true c.scanning.invariant.2 c.in-Ok.ensures.others,
  SoFar-item _ _ _ _ _ _ _ _ _ _ _ _ _ _ _ _ c.entry-item.is c.scanning-test.true
      c.scanning.invariant.3 c.scanning.invariant.0
      c.in-Ok.ensures.others c.in-Ok.ensures.part c.end_part.ensures
      (ap (λ bytes. c.scanning.left - bytes) c.file_size-left.ensures) c.in-Ok-push.ensures.ok,
)

pub returns-in-Err-push-clause-counts : goal.returns-in-Err-push-clause-counts
returns-in-Err-push-clause-counts g c = NoneFell-trans _ _ _ c.scanning.invariant.1 c.in-Ok.ensures.counts

pub returns-in-Err-push-clause-others : goal.returns-in-Err-push-clause-others
returns-in-Err-push-clause-others g c =
    others-whole _ _ _ _
    (others-item _ _ _ _ _ _ c.entry-item.is c.scanning-test.true c.scanning.invariant.2 c.in-Ok.ensures.others)

pub returns-in-Err-clause-counts : goal.returns-in-Err-clause-counts
returns-in-Err-clause-counts g c = NoneFell-trans _ _ _ c.scanning.invariant.1 c.in-Err.ensures.counts

pub returns-in-Err-clause-others : goal.returns-in-Err-clause-others
returns-in-Err-clause-others g c =
    others-whole _ _ _ _
    (others-item _ _ _ _ _ _ c.entry-item.is c.scanning-test.true c.scanning.invariant.2 c.in-Err.ensures.others)

pub returns-in-Err-clause-stops : goal.returns-in-Err-clause-stops
returns-in-Err-clause-stops g c = λ long.
    StopsPast-item _ _ _ _ _ _ _ _ _ _ _ _ _ c.entry-item.is c.scanning-test.true
    c.scanning.invariant.3 c.scanning.invariant.0
    c.scanning.invariant.2 c.in-Err.ensures.others (c.in-Err.ensures.past (Err-again _ _ long))

pub returns-in-Err-clause-fault : goal.returns-in-Err-clause-fault
returns-in-Err-clause-fault g c = λ failed.
    SomeRose-item _ _ _ _ _ _ c.entry-item.is c.scanning-test.true c.scanning.invariant.1
    (c.in-Err.ensures.fault (Err-again _ _ failed))
