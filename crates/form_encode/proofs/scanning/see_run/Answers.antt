use Rattle.std.proofs.Common.{arith}
use Rattle.form_encode.specs.Scanning.{seen_below}
use Rattle.form_encode.proofs.MarkLaws.{set_turn}
use Rattle.form_encode.proofs.scanning.see_run.Goals as goal

pub loop-i-preserved : goal.loop-i-preserved
loop-i-preserved c =
    set_turn (seen_below c.args.bytes.now c.args.run.now.end) _ _ _ _ _ (omega (arith, c.loop-i-test.true, c.len-i-end.ensures)) c.loop-i.invariant
    c.index_mut.ensures.value c.see_boundary.ensures
