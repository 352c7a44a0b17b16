use Rattle.std.proofs.Common.{◌<◌, arith}
use Rattle.form_tokens.proofs.Boundaries.{shown_boundary}
use Rattle.form_tokens.proofs.Parts.{run_read}
use Rattle.form_tokens.proofs.writing.plain_of.Goals as goal

pub split_at-requires : goal.split_at-requires
split_at-requires c =
    let some : 0 < c.plain_end-count.result = omega (arith, c.if-count-eq0.false) in
    shown_boundary c.args.context c.args.text.now c.plain_end-count.result (rw c.as_bytes.ensures.value at c.plain_end-count.ensures.value some)

pub returns-clause-value : goal.returns-clause-value
returns-clause-value c =
    let some : 0 < c.plain_end-count.result = omega (arith, c.if-count-eq0.false) in
    rw c.split_at.ensures.front (rw c.split_at.ensures.back (run_read c.args.context c.plain_end-count.result c.args.text.now some
    (rw c.as_bytes.ensures.value at c.plain_end-count.ensures.value some) (rw c.as_bytes.ensures.value at c.plain_end-count.ensures.ends some)))
