use Rattle.form_select.proofs.ChosenLaws.{chosen_placed, chosen_unplaced}
use Rattle.form_select.proofs.states.chosen_of.Goals as goal

pub returns-in-Some : goal.returns-in-Some
returns-in-Some c = chosen_placed c.args.tree.now.nodes c.args.select c.in-Some.place c.args.chosen.now c.requires c.in-Some.ensures.value

pub returns-in-None : goal.returns-in-None
returns-in-None c = chosen_unplaced c.args.tree.now.nodes c.args.select c.in-None.ensures.value
