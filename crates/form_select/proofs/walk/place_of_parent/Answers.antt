use Rattle.std.proofs.Common.{sym, ap, ◌∙◌}
use Rattle.std.specs.Option.{option_and_then}
use Rattle.form_tree.specs.Tree.{place_of}
use Rattle.form_select.proofs.WalkLaws.{no_parent_there, parent_there}
use Rattle.form_select.proofs.walk.place_of_parent.Goals as goal

pub returns-in-Some : goal.returns-in-Some
returns-in-Some c =
    c.place_of_up.ensures.value
    ∙ ap (option_and_then (place_of c.args.tree.now.nodes)) c.parent.ensures
    ∙ sym (parent_there c.args.tree.now.nodes c.place_of_up.ensures.tree c.args.place c.in-Some.key c.in-Some.ensures)

pub returns-in-None : goal.returns-in-None
returns-in-None c = no_parent_there c.args.tree.now.nodes c.args.place c.in-None.ensures
