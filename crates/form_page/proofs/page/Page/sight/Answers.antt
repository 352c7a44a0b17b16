use Rattle.std.proofs.Common.{◌∙◌}
use Rattle.form_page.specs.Page.{names_of}
use Rattle.form_page.proofs.ViewLaws.{sight_placed, sight_unplaced}
use Rattle.form_page.proofs.page.Page.sight.Goals as goal

pub returns-in-Some : goal.returns-in-Some
returns-in-Some c = rw (← c.self.view_is) (c.sight_in.ensures ∙ rw c.deref.ensures.value (sight_placed (names_of c.self.inside.files.items) c.self.inside.tree.nodes c.args.key c.in-Some.place c.self.inside.kept.sights.items c.self.invariant.3 c.in-Some.ensures.value))

pub returns-in-None : goal.returns-in-None
returns-in-None c = rw (← c.self.view_is) (sight_unplaced (names_of c.self.inside.files.items) c.self.inside.tree.nodes c.args.key c.in-None.ensures.value)
