use Rattle.std.proofs.Common.{◌≤◌, arith}
use Rattle.std.specs.List.{prefix_len}
use Rattle.form_tokens.specs.Runs.{is_other}
use Rattle.form_tokens.proofs.Texts.{clear_behind, clear_shown, clear_within, taken}
use Rattle.form_tokens.proofs.characters.shown_step.Goals as goal

pub split_at-requires : goal.split_at-requires
split_at-requires c = clear_within c.args.context c.some_clear-clear.result c.args.bytes.now c.some_clear-clear.ensures

pub returns-clause-value : goal.returns-clause-value
returns-clause-value c =
    let other : c.before-count.result ≤ prefix_len (is_other 38) c.args.bytes.now = rw c.before-count.ensures.value (rw c.split_at.ensures.front (taken (is_other 38) c.some_clear-clear.result c.args.bytes.now)) in
    clear_shown c.args.context c.before-count.result c.some_clear-clear.result c.args.bytes.now c.some_clear-clear.ensures (omega (arith, c.before-count.ensures.bound, c.split_at.ensures.front_len)) other

pub returns-clause-clear : goal.returns-clause-clear
returns-clause-clear c = clear_behind c.args.context c.before-count.result c.some_clear-clear.result c.args.bytes.now c.some_clear-clear.ensures
