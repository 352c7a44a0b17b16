use Rattle.std.proofs.Common.{◌<◌, arith}
use Rattle.form_tokens.specs.Runs.{is_other}
use Rattle.form_tokens.proofs.Parts.{begins_at}
use Rattle.form_tokens.proofs.Texts.{taken}
use Rattle.form_tokens.proofs.writing.clear_run.Goals as goal

pub returns-else-count-clear-clause-none : goal.returns-else-count-clear-clause-none
returns-else-count-clear-clause-none c = rw c.before-count.ensures.value (rw c.split_at.ensures.front (taken (is_other 38) c.args.clear c.args.bytes.now))

pub returns-else-count-clear-clause-next : goal.returns-else-count-clear-clause-next
returns-else-count-clear-clause-next c =
    let less : c.before-count.result < c.args.clear = omega (arith, c.before-count.ensures.bound, c.split_at.ensures.front_len, c.if-count-clear.false) in
    begins_at c.before-count.result c.args.clear c.args.bytes.now (rw c.split_at.ensures.front at c.before-count.ensures.value) less c.requires
