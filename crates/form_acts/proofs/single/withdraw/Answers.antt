use Rattle.std.proofs.Common.{arith}
use Rattle.form_acts.proofs.SingleLaws.{withdrawn}
use Rattle.form_acts.proofs.single.withdraw.Goals as goal

pub returns : goal.returns
returns c = withdrawn c.args.page.now c.loop-key.draft c.args.file c.holders-holders.result.now c.loop-key.key-index (omega (arith, c.loop-key-test.false)) c.holders-holders.ensures c.loop-key.invariant
