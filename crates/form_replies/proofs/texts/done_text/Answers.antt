use Rattle.std.proofs.Common.{[], ap, arith, ◌++◌, ◌∙◌}
use Rattle.form_replies.specs.Replies.{ok_line, seen_line}
use Rattle.form_replies.proofs.TextLaws.{texts_all, texts_more}
use Rattle.form_replies.proofs.texts.done_text.Goals as goal

pub loop-key-preserved : goal.loop-key-preserved
loop-key-preserved c =
    texts_more (seen_line c.args.page.now) c.args.keys.now c.loop-key.key-index _ [] _ _ _ c.loop-key-test.true c.loop-key.invariant
    c.in_ok-view.ensures (rw c.as_str.ensures.value at c.in_ok-push_str.ensures.bytes)

pub returns : goal.returns
returns c =
    c.in_ok-push_ok.ensures
    ∙ ap (λ t. t ++ ok_line) (texts_all (seen_line c.args.page.now) c.args.keys.now c.loop-key.key-index [] _ (omega (arith, c.loop-key-test.false)) c.loop-key.invariant)
