use Rattle.std.proofs.Common.{sym}
use Rattle.form_tree.proofs.Laws.{key_there}
use Rattle.form_owner.proofs.OwnerLaws.{one_more}
use Rattle.form_owner.proofs.owners.push_answer.Goals as goal

pub returns-in_ok-push : goal.returns-in_ok-push
returns-in_ok-push c = rw (c.in_ok-push.ensures.items, c.requires.known) (sym (one_more c.args.tree.now.nodes c.requires.tree c.args.place c.in-Some.key c.in_ok-answer.answer c.in-Some.ensures c.in_ok-answer.ensures))

pub returns-in_default : goal.returns-in_default
returns-in_default c = absurd (key_there c.args.tree.now.nodes c.args.place c.requires.there c.in_default.ensures)
