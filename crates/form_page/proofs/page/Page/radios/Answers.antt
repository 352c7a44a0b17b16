use Rattle.std.proofs.Common.{ap, ◌∙◌}
use Rattle.std.specs.List.{filter}
use Rattle.form_groups.specs.Groups.{keys_of}
use Rattle.form_page.specs.Members.{is_in_group}
use Rattle.form_page.proofs.MemberLaws.{keys_of_members}
use Rattle.form_page.proofs.page.Page.radios.Goals as goal

pub returns : goal.returns
returns c =
    rw (← c.self.view_is)
    (c.members.ensures ∙ ap keys_of (c.self.invariant.4 c.args.owner c.args.name.now c.requires) ∙ keys_of_members (filter (is_in_group c.self.inside.tree.nodes c.args.owner c.args.name.now) c.self.inside.tree.nodes))
