use Rattle.std.proofs.Common.{sym, ap, ◌∙◌, arith}
use Rattle.std.proofs.lemmas.List.{drop_all}
use Rattle.form_select.proofs.SettlingLaws.{latest, latest_last}
use Rattle.form_select.proofs.settling.last_selected.Goals as goal

pub returns : goal.returns
returns c =
    sym (ap (latest c.loop-option.last) (drop_all c.loop-option.option-index c.args.options.now (omega (arith, c.loop-option-test.false))))
    ∙ c.loop-option.invariant ∙ latest_last c.args.options.now
