use Rattle.std.proofs.Common.{◌≤◌, arith}
use Rattle.std.specs.List.{prefix_len}
use Rattle.form_tokens.proofs.Texts.{taken}
use Rattle.form_tokens.specs.Runs.{is_other}
use Rattle.form_tokens.proofs.ahead.clear_len.Goals as goal

pub returns : goal.returns
returns c =
    let other : c.before-2.result ≤ prefix_len (is_other 0) c.args.bytes.now = rw c.before-2.ensures.value (rw c.split_at.ensures.front (taken (is_other 0) c.before_stop.result c.args.bytes.now)) in
    c.before_stop.ensures.clear c.before-2.result (omega (arith, c.before-2.ensures.bound, c.split_at.ensures.front_len)) other
