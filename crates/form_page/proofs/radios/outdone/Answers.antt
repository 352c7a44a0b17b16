use Rattle.std.proofs.Common.{◌-◌, length, refl}
use Rattle.form_page.proofs.RadioLaws.{outdone_step}
use Rattle.form_page.proofs.radios.outdone.Goals as goal

pub loop-passed-preserved : goal.loop-passed-preserved
loop-passed-preserved c =
    let nodes = c.nodes-nodes.result.now in
    let step = outdone_step c.args.tree.now.nodes nodes c.loop-passed.passed (length nodes - 1 - c.loop-passed.passed) c.index-nodes-place.result
    c.loop-passed.marks.items c.mark.new.marks.items c.loop-passed.lasts.items c.mark.new.lasts.items c.loop-passed-test.true refl c.index-nodes-place.is
    c.loop-passed.invariant.marked c.loop-passed.invariant.lasts c.in_ok-mark.ensures.mark c.in_ok-mark.ensures.last in
    record { marked = step.0; lasts = step.1 }
