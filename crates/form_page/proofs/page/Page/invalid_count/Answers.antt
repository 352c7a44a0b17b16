use Rattle.form_page.proofs.InvalidLaws.{counted_form}
use Rattle.form_page.proofs.page.Page.invalid_count.Goals as goal

pub returns : goal.returns
returns c = rw (← c.self.view_is) (counted_form c.self.inside.tree.nodes c.args.form c.count_invalid.result c.if-not-is_form_at.ensures c.count_invalid.ensures)
