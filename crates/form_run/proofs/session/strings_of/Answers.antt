use Rattle.std.proofs.Common.{arith, ◌∙◌}
use Rattle.std.specs.Prelude.{string_bytes}
use Rattle.std.proofs.lemmas.List.{take_all}
use Rattle.form_run.proofs.CountLaws.{image_more}
use Rattle.form_run.proofs.session.strings_of.Goals as goal

pub loop-text-preserved : goal.loop-text-preserved
loop-text-preserved c =
    image_more string_bytes c.args.texts.now c.loop-text.text-index c.text-item.result _ _ _ c.loop-text-test.true c.text-item.is c.loop-text.invariant
    (c.in_ok-string.ensures.ok ∙ c.as_str.ensures) c.in_ok-push.ensures.items

pub returns : goal.returns
returns c = c.loop-text.invariant ∙ take_all _ _ (omega (arith, c.loop-text-test.false))
