use Rattle.std.proofs.Common.{arith}
use Rattle.std.specs.Prelude.{codes}
use Rattle.form_replies.specs.Replies.{invalid_line}
use Rattle.form_replies.proofs.TextLaws.{texts_all, texts_more}
use Rattle.form_replies.proofs.texts.stopped_lines.Goals as goal

pub loop-key-preserved : goal.loop-key-preserved
loop-key-preserved c =
    texts_more (invalid_line c.args.page.now) c.args.keys.now c.loop-key.key-index _ (codes "stopped\n") _ _ _ c.loop-key-test.true
    c.loop-key.invariant c.in_ok-line.ensures (rw c.as_str.ensures.value at c.in_ok-push_str.ensures.bytes)

pub returns : goal.returns
returns c = texts_all (invalid_line c.args.page.now) c.args.keys.now c.loop-key.key-index (codes "stopped\n") _ (omega (arith, c.loop-key-test.false)) c.loop-key.invariant
