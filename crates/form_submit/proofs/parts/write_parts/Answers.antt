use Rattle.std.proofs.Common.{arith}
use Rattle.form_ports.proofs.Laws.{WroteUpTo-more, WroteUpTo-part}
use Rattle.form_submit.proofs.GatherLaws.{parts-split}
use Rattle.form_submit.proofs.parts.write_parts.Goals as goal

pub loop-part-preserved : goal.loop-part-preserved
loop-part-preserved g c = (
  WroteUpTo-more _ _ _ _ _ _ _ c.loop-part.invariant.0 (parts-split _ _ _ c.loop-part-test.true) c.in_ok-write_all.ensures.whole,
  omega (arith, c.in_ok-write_all.ensures.later, c.loop-part.invariant.1),
)

pub returns-in_err-write_all-clause-part : goal.returns-in_err-write_all-clause-part
returns-in_err-write_all-clause-part g c =
    WroteUpTo-part _ _ _ _ _ _ _ c.loop-part.invariant.0 (parts-split _ _ _ c.loop-part-test.true) c.in_err-write_all.ensures.part
