use Rattle.std.proofs.Common.{ap, ◌∙◌}
use Rattle.form_tree.specs.Index.{first_place}
use Rattle.form_tree.proofs.FirstKeys.{given_first, index_first, raws_are_tree}
use Rattle.form_tree.proofs.tree.Tree.from_raw.Goals as goal

pub invariant_of-result : goal.invariant_of-result
invariant_of-result c =
    let count = c.len-count.ensures ∙ c.args.raws.ok.0 in
    rw c.in_ok-nodes.ensures (
      raws_are_tree c.args.raws.items c.requires.tree,
      index_first c.in_ok-places.places.items c.args.raws.items (λ k. c.in_ok-places.ensures k ∙ ap (λ n. first_place n k) count),
      rw count (given_first c.args.raws.items),
    )
