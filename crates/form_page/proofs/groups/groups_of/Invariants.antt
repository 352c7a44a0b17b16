use Rattle.std.proofs.Common.{take}
use Rattle.form_page.specs.Members.{AreGroupsAmong}
use Rattle.form_page.proofs.groups.groups_of.Given as goal

-- the radio buttons among the elements so far
abbrev pub invariant-loop-place : goal.invariant-loop-place
invariant-loop-place l = AreGroupsAmong l.tree.nodes l.groups (take l.place l.nodes)
