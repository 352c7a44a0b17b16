use Rattle.std.proofs.Common.{◌<◌, List, Option, get_or, length, ap, ◌∙◌}
use Rattle.form_judge.specs.declared.flags.Flags.{Flags}
use Rattle.form_page.specs.Page.{names_of}
use Rattle.form_page.specs.Views.{sight_if, verdict_of}
use Rattle.form_page.proofs.CountLaws.{map_more}
use Rattle.form_select.proofs.Laws.{at_own_key, kept_there, read_there}
use Rattle.form_page.proofs.sight.all_sights.Goals as goal

pub is_candidate-candidate-requires-clause-there : goal.is_candidate-candidate-requires-clause-there
is_candidate-candidate-requires-clause-there c =
    let ns = c.args.tree.now.nodes in
    let below : c.loop-place.place < length ns = rw c.nodes-nodes.ensures.value at c.loop-place-test.true in
    at_own_key ns c.nodes-nodes.ensures.tree c.loop-place.place c.index-nodes-place.result below (rw c.nodes-nodes.ensures.value at c.index-nodes-place.is)

pub sight_if-requires-clause-there : goal.sight_if-requires-clause-there
sight_if-requires-clause-there c =
    let ns = c.args.tree.now.nodes in
    let below : c.loop-place.place < length ns = rw c.nodes-nodes.ensures.value at c.loop-place-test.true in
    at_own_key ns c.nodes-nodes.ensures.tree c.loop-place.place c.index-nodes-place.result below (rw c.nodes-nodes.ensures.value at c.index-nodes-place.is)

pub sight_if-requires-clause-verdict : goal.sight_if-requires-clause-verdict
sight_if-requires-clause-verdict c =
    let ns = c.args.tree.now.nodes in
    let i = c.loop-place.place in
    let n = c.index-nodes-place.result in
    let below : i < length ns = rw c.nodes-nodes.ensures.value at c.loop-place-test.true in
    let there = read_there ns i n below (rw c.nodes-nodes.ensures.value at c.index-nodes-place.is) in
    c.index-verdicts-place.is ∙ ap (λ (kept : List (Option Flags)). get_or kept i c.index-verdicts-place.result) c.requires.verdicts
    ∙ kept_there (verdict_of ns) ns i n c.index-verdicts-place.result there

pub loop-place-preserved : goal.loop-place-preserved
loop-place-preserved c =
    map_more (sight_if (names_of c.args.files.now) c.args.tree.now.nodes) c.nodes-nodes.result.now c.loop-place.place c.index-nodes-place.result c.loop-place.sights.items c.push.new.self.items c.in_ok-sight_if.field-0
    c.loop-place-test.true c.index-nodes-place.is c.loop-place.invariant c.in_ok-push.ensures.items c.in_ok-sight_if.ensures
