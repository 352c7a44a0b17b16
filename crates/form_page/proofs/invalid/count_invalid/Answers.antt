use Rattle.std.proofs.Common.{◌<◌, true, false, get_or, length, ap, ◌∙◌}
use Rattle.form_page.specs.Changes.{counts_for}
use Rattle.form_page.specs.Invalid.{is_invalid_in}
use Rattle.form_page.specs.Page.{names_of}
use Rattle.form_page.proofs.InvalidLaws.{counted, counts_there, node_there}
use Rattle.form_page.proofs.invalid.count_invalid.Goals as goal
use Rattle.form_page.proofs.invalid.count_invalid.Goals.{else-counts_for, then-counts_for}

pub loop-place-preserved : goal.loop-place-preserved
loop-place-preserved c =
    let ns = c.args.tree.now.nodes in
    let i = c.loop-place.place in
    let below : i < length ns = rw c.len-place-end.ensures.value at c.loop-place-test.true in
    let met = node_there ns i below in
    let law = ap (counts_for c.args.form (get_or c.args.answers.now i c.index-answers-place.result).owner) c.index-sights-place.is ∙ counts_there (names_of c.args.files.now) ns c.args.form c.args.answers.now c.args.sights.now i c.index-answers-place.result c.index-sights-place.result met.0 c.requires.answers c.requires.sights met.1 in
    elim c.if-counts_for.branch [
      | then-counts_for w ↦ counted (is_invalid_in ns c.args.form) ns i met.0 c.loop-place.count c.if-counts_for.count true met.1 c.loop-place.invariant (w.if-counts_for.ensures ∙ law) w.count-is
      | else-counts_for w ↦ counted (is_invalid_in ns c.args.form) ns i met.0 c.loop-place.count c.if-counts_for.count false met.1 c.loop-place.invariant (w.if-counts_for.ensures ∙ law) w.count-is
    ]
