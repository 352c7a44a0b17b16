use Rattle.std.proofs.Common.{ap, ◌∙◌}
use Rattle.form_script.specs.Adding.{dashed, with_words}
use Rattle.form_script.specs.Printed.{flag_table}
use Rattle.form_script.proofs.PrintedLaws.{flags_added}
use Rattle.form_script.proofs.flags.flag_words.Goals as goal

pub returns : goal.returns
returns c =
    c.in_ok-add_dash.ensures ∙ ap dashed (c.in_ok-add_words.ensures ∙ ap (with_words (flag_table c.args.flags.now)) c.new-words.ensures.bytes)
    ∙ flags_added c.args.flags.now
