use Rattle.std.proofs.Common.{◌∙◌}
use Rattle.form_encode.proofs.FedLaws.{marks_begun}
use Rattle.form_encode.proofs.scanning.marks_of.Goals as goal

pub loop-boundary-preserved : goal.loop-boundary-preserved
loop-boundary-preserved c =
    c.in_ok-push.ensures.items ∙ marks_begun c.args.bounds.now c.loop-boundary.boundary-index c.boundary-item.result c.in_ok-boundary.boundary c.loop-boundary.marks.items
    c.boundary-item.is c.loop-boundary-test.true (c.in_ok-boundary.ensures ∙ c.as_str.ensures.value) c.loop-boundary.invariant
