use Rattle.std.proofs.Common.{sym}
use Rattle.form_select.proofs.WalkLaws.{options_start, select_there}
use Rattle.form_select.proofs.walk.descendants.Goals as goal

pub returns-in-Some-clause-start : goal.returns-in-Some-clause-start
returns-in-Some-clause-start c = options_start c.args.tree.now.nodes c.place.ensures.tree c.args.select c.in-Some.place (sym c.in-Some.ensures.value)

pub returns-in-None-clause-end : goal.returns-in-None-clause-end
returns-in-None-clause-end c = absurd (select_there c.args.tree.now.nodes c.args.select c.requires c.in-None.ensures.value)
