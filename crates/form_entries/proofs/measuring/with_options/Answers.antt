use Rattle.std.proofs.Common.{sym, ap, ◌∙◌}
use Rattle.form_entries.specs.Below.{measured}
use Rattle.form_entries.proofs.OptionLaws.{entries_among}
use Rattle.form_entries.proofs.measuring.with_options.Goals as goal

pub returns : goal.returns
returns c =
    c.with_options_among.ensures
    ∙ ap (measured c.args.total) (sym (entries_among c.args.page.now c.args.select.now c.elements_with_options.result.now c.elements_with_options.ensures.options))
