use Rattle.std.proofs.Common.{sym, ap, ◌∙◌}
use Rattle.form_page.specs.Page.{Page}
use Rattle.form_page.proofs.MemberLaws.{is_group}
use Rattle.form_drafts.specs.Drafts.{owner_so_far}
use Rattle.form_drafts.proofs.radios.named_alike.Goals as goal

pub radios-requires : goal.radios-requires
radios-requires c =
    is_group c.args.draft.now.nodes c.page-page.ensures.tree c.args.key c.owner_of.result c.name_of-name.result.now
    (c.owner_of.ensures ∙ ap (λ (p : Page). owner_so_far p.tree.nodes c.args.moved.now c.args.key) c.page-page.ensures.page ∙ sym (c.requires.owners c.args.key)) c.if-is_empty.ensures
