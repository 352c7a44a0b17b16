use Rattle.std.proofs.Common.{arith, refl, sym}
use Rattle.std.proofs.lemmas.Option.{gets}
use Rattle.std.proofs.lemmas.Grind.{common_steps}
use Rattle.form_tree.proofs.Places.{at_key_place}
use Rattle.form_tree.proofs.tree.Tree.node.Goals as goal

pub returns-in-Some : goal.returns-in-Some
returns-in-Some c = rw (at_key_place c.args.self.now.nodes c.args.key, sym c.in-Some.ensures.value, ← c.self.view_is) (grind (arith, common_steps, gets, c.deref.ensures.value))

pub returns-in-None : goal.returns-in-None
returns-in-None c = rw (at_key_place c.args.self.now.nodes c.args.key, ← c.in-None.ensures.value) refl
