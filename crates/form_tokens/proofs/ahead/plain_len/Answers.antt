use Rattle.std.proofs.Common.{◌≡◌, ◌≤◌, arith, false, length}
use Rattle.std.specs.List.{list_any}
use Rattle.form_tokens.specs.Ahead.{ends_plain}
use Rattle.form_tokens.proofs.Texts.{clear_shown, plain_front}
use Rattle.form_tokens.proofs.ahead.plain_len.Goals as goal

pub returns-then-is_plain-clause-value : goal.returns-then-is_plain-clause-value
returns-then-is_plain-clause-value c =
    let within : c.before_stop-count.result ≤ length c.args.bytes.now = omega (arith, c.split_at.ensures.front_len) in
    let none : list_any ends_plain c.split_at.result.0.now ≡ false = grind (arith, c.is_plain.ensures, c.if-is_plain.true) in
    let plain = plain_front c.before_stop-count.result c.args.bytes.now within (rw c.split_at.ensures.front at none) in
    clear_shown c.args.context c.before_stop-count.result c.before_stop-count.result c.args.bytes.now (c.before_stop-count.ensures.clear c.before_stop-count.result (omega arith) plain.0) (omega arith) plain.1
