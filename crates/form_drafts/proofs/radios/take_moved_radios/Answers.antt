use Rattle.std.proofs.Common.{None, List, ap, ◌∙◌}
use Rattle.form_owner.specs.declared.moves.Move.{Move}
use Rattle.form_tree.specs.Tree.{Tree}
use Rattle.form_page.specs.Page.{Page}
use Rattle.form_drafts.specs.Drafts.{becomes_by}
use Rattle.form_drafts.proofs.JoinedLaws.{joined_like, joined_moved}
use Rattle.form_drafts.proofs.MovedLaws.{moved_done, owned_by_moves}
use Rattle.form_drafts.proofs.radios.take_moved_radios.Goals as goal

pub take_radios-requires-clause-owners : goal.take_radios-requires-clause-owners
take_radios-requires-clause-owners c =
    owned_by_moves c.args.draft.now.page.tree.nodes c.args.draft.now.nodes c.page.ensures.framed c.in_ok-moved.moved
    (λ k. c.in_ok-moved.ensures k ∙ ap (λ (ms : List Move). becomes_by ms None k) c.requires)

pub take_radios-requires-clause-like : goal.take_radios-requires-clause-like
take_radios-requires-clause-like c =
    let is = c.in_ok-joined.ensures in
    joined_like c.args.draft.now is.0 c.in_ok-joined.joined.items c.args.moves.now is.1 is.2 c.deref.result.now c.deref.ensures.value

pub take_radios-requires-clause-moved : goal.take_radios-requires-clause-moved
take_radios-requires-clause-moved c =
    let is = c.in_ok-joined.ensures in
    joined_moved c.in_ok-moved.moved c.args.moves.now c.in_ok-moved.ensures is.0 c.in_ok-joined.joined.items is.2 c.deref.result.now c.deref.ensures.value

pub returns : goal.returns
returns c =
    moved_done c.take_radios.result c.args.draft.now c.take_radios.new.draft c.tree-tree.result.now.nodes c.args.moves.now c.in_ok-keys.keys.items c.deref-2.result.now
    (ap (λ (t : Tree). t.nodes) c.tree-tree.ensures ∙ ap (λ (p : Page). p.tree.nodes) c.page.ensures.page) c.len.ensures.tree c.page.ensures.framed c.requires c.in_ok-keys.ensures c.deref-2.ensures.value c.take_radios.ensures
