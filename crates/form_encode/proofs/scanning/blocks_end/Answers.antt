use Rattle.std.proofs.Common.{arith, drop, ◌≡◌, sym, ap, ◌∙◌}
use Rattle.std.specs.Prelude.{replicate}
use Rattle.form_encode.proofs.MarkLaws.{rest_true}
use Rattle.form_encode.proofs.ScanLaws.{block_dashes}
use Rattle.form_encode.proofs.scanning.blocks_end.Goals as goal

pub passing-preserved : goal.passing-preserved
passing-preserved c = (
  omega (arith, c.passing.invariant.0),
  omega (arith, c.passing.invariant.1, c.passing-test.true),
  block_dashes c.args.bytes.now c.args.start c.passing.at 64 c.passing.invariant.2
      (rest_true (replicate 64 45) (drop c.passing.at c.args.bytes.now) c.starts_with.result (rw c.behind.ensures at c.starts_with.ensures.value) c.if-starts_with.true),
)
