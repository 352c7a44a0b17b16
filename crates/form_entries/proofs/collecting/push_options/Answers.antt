use Rattle.std.proofs.Common.{◌≡◌, ◌++◌, List, OnOk, sym, subst}
use Rattle.form_encode.specs.declared.entry.Entry.{Entry}
use Rattle.form_entries.proofs.OptionLaws.{entries_among}
use Rattle.form_entries.proofs.collecting.push_options.Goals as goal

pub returns : goal.returns
returns c =
    subst (λ (es : List Entry). OnOk c.push_options_among.result (c.push_options_among.new.entries.items ≡ c.args.entries.now.items ++ es))
    (sym (entries_among c.args.page.now c.args.select.now c.elements_with_options.result.now c.elements_with_options.ensures.options))
    c.push_options_among.ensures
