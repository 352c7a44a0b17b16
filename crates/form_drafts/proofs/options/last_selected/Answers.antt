use Rattle.std.proofs.Common.{sym, ap, ◌∙◌, arith}
use Rattle.std.proofs.lemmas.List.{drop_all}
use Rattle.form_tree.specs.Elements.{passes}
use Rattle.form_tree.specs.Selects.{is_selected}
use Rattle.form_drafts.proofs.OptionLaws.{latest, latest_last}
use Rattle.form_drafts.proofs.options.last_selected.Goals as goal

pub returns : goal.returns
returns c =
    sym (ap (latest (passes is_selected c.args.draft.now.nodes) c.loop-key.last) (drop_all c.loop-key.key-index c.args.options.now (omega (arith, c.loop-key-test.false))))
    ∙ c.loop-key.invariant ∙ latest_last (passes is_selected c.args.draft.now.nodes) c.args.options.now
