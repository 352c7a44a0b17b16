use Rattle.std.proofs.Common.{ap, ◌∙◌}
use Rattle.form_tree.specs.Selects.{select_of}
use Rattle.form_tree.specs.Tree.{Tree}
use Rattle.form_page.specs.Page.{Page}
use Rattle.form_drafts.proofs.SoFarLaws.{frame_select}
use Rattle.form_drafts.proofs.options.select_so_far.Goals as goal

pub returns : goal.returns
returns c =
    c.select_of.ensures ∙ ap (λ (t : Tree). select_of t.nodes c.args.key) c.tree.ensures ∙ ap (λ (p : Page). select_of p.tree.nodes c.args.key) c.page.ensures.page
    ∙ frame_select c.args.draft.now.nodes c.args.draft.now.page.tree.nodes c.page.ensures.framed c.args.key
