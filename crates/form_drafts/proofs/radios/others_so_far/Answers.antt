use Rattle.std.proofs.Common.{List, ap, ◌++◌, ◌∙◌}
use Rattle.std.specs.List.{filter}
use Rattle.form_tree.specs.declared.node.Key.{Key}
use Rattle.form_drafts.proofs.JoinedLaws.{others_found}
use Rattle.form_drafts.specs.Joined.{is_other}
use Rattle.form_drafts.proofs.radios.others_so_far.Goals as goal

pub returns : goal.returns
returns c =
    others_found c.args.draft.now c.args.moved.now c.args.joined.now c.requires.owners c.requires.like c.requires.moved c.args.key
    c.new-others.result.items c.push_others.new.others.items c.push_others-2.new.others.items c.new-others.ensures.items
    (c.in_ok-push_others.ensures ∙ ap (λ (ks : List Key). c.new-others.result.items ++ filter (is_other c.args.draft.now.nodes c.args.key) ks) c.named_alike.ensures)
    c.in_ok-push_others-2.ensures
