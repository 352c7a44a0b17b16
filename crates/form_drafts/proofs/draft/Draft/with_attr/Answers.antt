use Rattle.std.proofs.Common.{refl}
use Rattle.form_tree.specs.Attributes.{set_attr}
use Rattle.form_page.specs.declared.edit.Edit.TheVariants.{Attr}
use Rattle.form_drafts.proofs.DraftLaws.{none_made}
use Rattle.form_drafts.proofs.SoFarLaws.{made_by}
use Rattle.form_drafts.proofs.draft.Draft.with_attr.Goals as goal

pub returns-in_default : goal.returns-in_default
returns-in_default c = none_made c.args.self c.args.key (set_attr c.args.name c.args.value) c.in_default.ensures.node

pub change-requires : goal.change-requires
change-requires c =
    made_by c.args.self.nodes c.in-Some.ensures.tree c.args.key c.in-Some.node.now c.in-Some.ensures.node (set_attr c.args.name c.args.value) (λ n. refl) c.in_ok-next.next c.in_ok-next.ensures
    (Attr c.args.key c.args.name c.args.value) refl refl (λ files. refl)
