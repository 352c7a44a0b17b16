use Rattle.std.proofs.Common.{List, map, ap, ◌∙◌, subst, ◌≡◌}
use Rattle.std.specs.Result.{IfOk}
use Rattle.form_tree.specs.declared.node.Key.{Key}
use Rattle.form_tree.specs.declared.node.Node.{Node}
use Rattle.form_tree.specs.Selects.{options}
use Rattle.form_tree.specs.Tree.{Tree}
use Rattle.form_page.specs.Page.{Page}
use Rattle.form_drafts.proofs.SoFarLaws.{frame_options}
use Rattle.form_drafts.proofs.options.options_so_far.Goals as goal

pub returns : goal.returns
returns c =
    subst (λ (ks : List Key). IfOk c.options_of.result (λ keys. keys.items ≡ ks))
    (ap (λ (t : Tree). map (λ (n : Node). n.key) (options t.nodes c.args.select)) c.tree.ensures ∙ ap (λ (p : Page). map (λ (n : Node). n.key) (options p.tree.nodes c.args.select)) c.page.ensures.page
    ∙ frame_options c.args.draft.now.nodes c.args.draft.now.page.tree.nodes c.page.ensures.framed c.args.select)
    c.options_of.ensures
