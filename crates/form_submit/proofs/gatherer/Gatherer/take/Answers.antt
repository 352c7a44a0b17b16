use Rattle.std.proofs.Common.{arith}
use Rattle.form_submit.proofs.GatherLaws.{Gathers-taken, GathersPart-taken, Gathers-none}
use Rattle.form_submit.proofs.gatherer.Gatherer.take.Goals as goal

pub taking-init : goal.taking-init
taking-init g c = (Gathers-none _ _, omega arith, omega arith)

pub taking-preserved : goal.taking-preserved
taking-preserved g c = (
  Gathers-taken _ _ _ _ _ _ _ _ _ _ _ c.taking.invariant.0 c.in_ok-print_whole.ensures.gathers c.split_at.ensures.back
      c.put-done.ensures.lines c.put-done.ensures.kept,
  omega (arith, c.put-done.ensures.count, c.split_at.ensures.back_len, c.taking.invariant.1),
  omega (arith, c.in_ok-print_whole.ensures.later, c.taking.invariant.2),
)

pub returns-in_err-print_whole-clause-part : goal.returns-in_err-print_whole-clause-part
returns-in_err-print_whole-clause-part g c = GathersPart-taken _ _ _ _ _ _ _ c.taking.invariant.0 c.in_err-print_whole.ensures.part
