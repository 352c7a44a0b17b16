use Rattle.std.proofs.Common.{◌∙◌}
use Rattle.form_page.proofs.OwnerLaws.{kept_owned}
use Rattle.form_page.proofs.page.Page.owned.Goals as goal

pub returns : goal.returns
returns c = rw (← c.self.view_is) (c.keys.ensures ∙ kept_owned c.self.inside.tree.nodes c.self.inside.kept.owned c.args.form c.self.invariant.5)
