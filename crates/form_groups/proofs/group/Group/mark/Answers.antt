use Rattle.std.proofs.Common.{arith}
use Rattle.std.proofs.lemmas.Grind.{common_steps}
use Rattle.form_groups.proofs.Members.{keys-marked}
use Rattle.form_groups.proofs.group.Group.mark.Goals as goal

pub invariant_of-self : goal.invariant_of-self
invariant_of-self c = grind (arith, common_steps, keys-marked, c.self.invariant, c.mark_member.ensures)
