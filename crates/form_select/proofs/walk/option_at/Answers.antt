use Rattle.std.proofs.Common.{sym, ap, cond, [], ◌∙◌}
use Rattle.form_tree.specs.Tree.{at_key}
use Rattle.form_select.specs.Options.{as_list}
use Rattle.form_select.proofs.OptionLaws.{option_passes}
use Rattle.form_select.proofs.WalkLaws.{none_there, option_there}
use Rattle.form_select.proofs.walk.option_at.Goals as goal

pub returns-in_default-clause-value : goal.returns-in_default-clause-value
returns-in_default-clause-value c = none_there c.args.tree.now.nodes c.args.select c.args.place (sym c.in_default.is ∙ c.key_at.ensures)

pub returns-then-is_option_of-clause-value : goal.returns-then-is_option_of-clause-value
returns-then-is_option_of-clause-value c =
    option_there c.args.tree.now.nodes c.len.ensures.tree c.args.select c.args.place c.in-Some.key c.in-Some.ensures
    ∙ ap (λ b. cond b (as_list (at_key c.args.tree.now.nodes c.in-Some.key)) []) (sym c.if-is_option_of.ensures)

pub returns-then-is_option_of-clause-option : goal.returns-then-is_option_of-clause-option
returns-then-is_option_of-clause-option c = option_passes c.args.tree.now.nodes c.args.select c.in-Some.key (sym c.if-is_option_of.ensures)

pub returns-clause-value : goal.returns-clause-value
returns-clause-value c =
    option_there c.args.tree.now.nodes c.len.ensures.tree c.args.select c.args.place c.in-Some.key c.in-Some.ensures
    ∙ ap (λ b. cond b (as_list (at_key c.args.tree.now.nodes c.in-Some.key)) []) (sym c.if-is_option_of.ensures)
