use Rattle.std.specs.String.{string_bytes}
use Rattle.form_select.proofs.OptionLaws.{value_known}
use Rattle.form_select.proofs.options.option_value.Goals as goal

pub returns-clause-value : goal.returns-clause-value
returns-clause-value c = λ names. value_known names c.args.tree.now.nodes c.args.option (string_bytes c.in_ok-value.value) c.requires c.in_ok-value.ensures
