use Rattle.std.proofs.Common.{◌<◌, add-one, length, arith}
use Rattle.form_groups.specs.Groups.{marked_if}
use Rattle.form_groups.proofs.Members.{changed_more}
use Rattle.form_groups.proofs.group.mark_member.Goals as goal

pub loop-member-preserved : goal.loop-member-preserved
loop-member-preserved c =
    let below : c.loop-member.member-index < length c.loop-member.members = omega arith in
    rw (c.marked_if.ensures, add-one) (changed_more (marked_if c.args.key c.args.required c.args.checked) c.args.members.now c.loop-member.members c.loop-member.member-index _ below c.loop-member.invariant)
