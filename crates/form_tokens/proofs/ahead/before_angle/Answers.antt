use Rattle.std.proofs.Common.{◌≤◌, arith}
use Rattle.std.specs.List.{prefix_len}
use Rattle.form_tokens.specs.Runs.{is_other}
use Rattle.form_tokens.proofs.Texts.{clear_plain, taken}
use Rattle.form_tokens.proofs.ahead.before_angle.Goals as goal

pub returns-clause-clear : goal.returns-clause-clear
returns-clause-clear c = λ n le g.
    let near : c.before-2.result ≤ prefix_len (is_other 60) c.args.bytes.now = rw c.before-2.ensures.value (rw c.split_at.ensures.front (taken (is_other 60) c.args.near c.args.bytes.now)) in
    clear_plain c.args.context n c.args.bytes.now (omega (arith, near)) g
