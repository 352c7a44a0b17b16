use Rattle.std.proofs.Common.{List, ap, ◌∙◌}
use Rattle.std.specs.List.{list_any}
use Rattle.form_markup.specs.Faults.{is_tag}
use Rattle.form_markup.specs.declared.machine.Open.{Open}
use Rattle.form_markup.proofs.Stacks.{any_else, any_then}
use Rattle.form_markup.proofs.machine.Machine.is_inside.Goals as goal

pub returns-then-has_tag : goal.returns-then-has_tag
returns-then-has_tag c =
    any_then (is_tag c.args.wanted) c.args.around.now c.args.self.now.stack c.has_tag.result (c.has_tag.ensures ∙ ap (λ (os : List Open). list_any (λ o. is_tag c.args.wanted o.tag) os) c.as_slice.ensures) c.if-has_tag.true

pub returns-else-has_tag : goal.returns-else-has_tag
returns-else-has_tag c =
    any_else (is_tag c.args.wanted) c.args.around.now c.args.self.now.stack c.has_tag.result c.is_listed.result (c.has_tag.ensures ∙ ap (λ (os : List Open). list_any (λ o. is_tag c.args.wanted o.tag) os) c.as_slice.ensures) c.if-has_tag.false c.is_listed.ensures
