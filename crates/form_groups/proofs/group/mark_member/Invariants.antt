use Rattle.std.proofs.Common.{◌≡◌, ◌++◌, take, drop}
use Rattle.form_groups.specs.Groups.{marked}
use Rattle.form_groups.proofs.group.mark_member.Given as goal

-- those that are passed have their marks
abbrev pub invariant-loop-member : goal.invariant-loop-member
invariant-loop-member l = l.members ≡ take l.member-index (marked l.key l.required l.checked l.fn.members) ++ drop l.member-index l.fn.members
