use Rattle.std.proofs.Common.{arith}
use Rattle.form_encode.proofs.MarkLaws.{all_seen, seen_all, seen_later, seen_zero}
use Rattle.form_encode.proofs.scanning.see.Goals as goal

pub seeing-init : goal.seeing-init
seeing-init c = (seen_zero _ _, omega arith)

pub see_run-requires-clause-seen : goal.see_run-requires-clause-seen
see_run-requires-clause-seen c = all_seen _ _ _ _ c.seeing.invariant.0

pub seeing-preserved : goal.seeing-preserved
seeing-preserved c =
    let run = c.in-Some.ensures in (
      seen_later _ _ _ _ _ _ (omega (arith, run.low, run.long)) c.seeing.invariant.0 c.see_run.ensures,
      run.high,
    )

pub returns : goal.returns
returns c = seen_all _ _ _ _ c.seeing.invariant.1 c.seeing.invariant.0 c.in_default.ensures
