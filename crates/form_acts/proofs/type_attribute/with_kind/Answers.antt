use Rattle.std.proofs.Common.{ap, ◌∙◌}
use Rattle.std.specs.Option.{option_map_or}
use Rattle.form_tree.specs.Tree.{Nodes, with_state}
use Rattle.form_drafts.specs.Drafts.{Draft}
use Rattle.form_acts.proofs.ChangeLaws.{kind_step}
use Rattle.form_acts.proofs.type_attribute.with_kind.Goals as goal

pub returns : goal.returns
returns c =
    c.in_ok-done.ensures
    ∙ ap (λ (d : Draft). let x : Draft = record d { nodes = option_map_or (with_state d.nodes c.args.key) c.in_ok-state.state d.nodes } in x) c.in_ok-after.ensures
    ∙ ap (λ (ns : Nodes). let x : Draft = record c.args.draft { nodes = ns } in x)
    (kind_step c.args.draft.nodes c.page.ensures.tree c.args.key c.args.from c.args.to c.in_ok-moved.moved c.in_ok-state.state c.in_ok-moved.ensures c.in_ok-state.ensures)
