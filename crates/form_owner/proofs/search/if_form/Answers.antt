use Rattle.std.proofs.Common.{sym}
use Rattle.form_owner.proofs.OwnerLaws.{form_itself}
use Rattle.form_owner.proofs.search.if_form.Goals as goal

pub returns-then-is_form : goal.returns-then-is_form
returns-then-is_form c = form_itself c.args.tree.now.nodes c.args.key (sym c.if-is_form.ensures)
