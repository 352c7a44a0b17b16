use Rattle.form_page.proofs.OwnerLaws.{owner_placed, owner_unplaced}
use Rattle.form_page.proofs.owners.owner_of.Goals as goal

pub returns-in-Some : goal.returns-in-Some
returns-in-Some c = owner_placed c.args.tree.now.nodes c.args.key c.in-Some.place c.args.answers.now c.index-answers-place.result c.requires c.in-Some.ensures.value

pub returns-in-None : goal.returns-in-None
returns-in-None c = owner_unplaced c.args.tree.now.nodes c.args.key c.in-None.ensures.value
