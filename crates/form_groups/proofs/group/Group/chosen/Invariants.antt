use Rattle.std.proofs.Common.{◌≡◌, drop}
use Rattle.form_groups.specs.Groups.{chosen_of}
use Rattle.form_groups.proofs.group.Group.chosen.Given as goal

-- the members that are passed are not checked
abbrev pub invariant-loop-member : goal.invariant-loop-member
invariant-loop-member l = chosen_of (drop l.member-index l.member-items) ≡ chosen_of l.fn.self.members
