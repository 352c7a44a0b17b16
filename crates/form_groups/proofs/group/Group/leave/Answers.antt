use Rattle.std.proofs.Common.{ap, ◌∙◌}
use Rattle.std.specs.List.{list_any}
use Rattle.form_groups.specs.declared.group.Member.{Member}
use Rattle.form_groups.proofs.Members.{keys-without}
use Rattle.form_groups.proofs.group.Group.leave.Goals as goal

pub invariant_of-self : goal.invariant_of-self
invariant_of-self c = (
  rw (c.take_key.ensures, c.take_member.ensures, c.self.invariant.0) (keys-without c.args.key c.self.inside.members.items),
  c.any_required-self-inside.ensures ∙ ap (list_any (λ (m : Member). m.required)) c.deref.ensures.value,
  c.any_checked-self-inside.ensures ∙ ap (list_any (λ (m : Member). m.checked)) c.deref-2.ensures.value,
)
