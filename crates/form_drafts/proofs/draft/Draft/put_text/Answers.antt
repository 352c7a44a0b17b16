use Rattle.std.proofs.Common.{refl}
use Rattle.form_tree.specs.declared.node.Node.{Node}
use Rattle.form_page.specs.declared.edit.Edit.TheVariants.{Text}
use Rattle.form_drafts.proofs.DraftLaws.{none_made}
use Rattle.form_drafts.proofs.SoFarLaws.{made_by}
use Rattle.form_drafts.proofs.draft.Draft.put_text.Goals as goal

pub returns-in_default : goal.returns-in_default
returns-in_default c = none_made c.args.self.now c.args.key (λ (n : Node). record n { text = c.args.text }) c.in_default.ensures.node

pub change-requires : goal.change-requires
change-requires c =
    made_by c.args.self.now.nodes c.in-Some.ensures.tree c.args.key c.in-Some.node.now c.in-Some.ensures.node (λ (n : Node). record n { text = c.args.text }) (λ n. refl) c.in_ok-next.next c.in_ok-next.ensures
    (Text c.args.key c.args.text) refl refl (λ files. refl)
