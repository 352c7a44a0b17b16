use Rattle.std.proofs.Common.{◌∙◌}
use Rattle.form_markup.specs.Narrow.{is_narrow}
use Rattle.form_markup.proofs.Stacks.{any_else, any_reversed, any_then}
use Rattle.form_markup.proofs.machine.Machine.is_inside_narrow.Goals as goal

pub returns-then-has_narrow : goal.returns-then-has_narrow
returns-then-has_narrow c =
    any_then is_narrow c.args.around.now c.args.self.now.stack c.has_narrow.result (c.has_narrow.ensures ∙ any_reversed is_narrow c.args.self.now.stack) c.if-has_narrow.true

pub returns-else-has_narrow : goal.returns-else-has_narrow
returns-else-has_narrow c =
    any_else is_narrow c.args.around.now c.args.self.now.stack c.has_narrow.result c.is_narrow_listed.result (c.has_narrow.ensures ∙ any_reversed is_narrow c.args.self.now.stack) c.if-has_narrow.false c.is_narrow_listed.ensures
