use Rattle.std.proofs.Common.{◌+◌, ◌<◌, ◌≤◌, List, length, map, sym, ap, ◌∙◌, subst}
use Rattle.std.specs.List.{count_by}
use Rattle.form_tree.specs.Elements.{is_submittable}
use Rattle.form_tree.specs.Tree.{Nodes}
use Rattle.form_judge.specs.Controls.{pattern_of}
use Rattle.form_judge.specs.Patterns.{Compiled, patterns_by}
use Rattle.form_judge.proofs.Laws.{pattern_picked}
use Rattle.form_page.specs.Views.{verdict_of}
use Rattle.form_page.proofs.CountLaws.{map_more, set_same, ticks_in_all, ticks_within}
use Rattle.form_select.proofs.Laws.{at_own_key, read_there}
use Rattle.form_page.proofs.verdicts.all_verdicts.Goals as goal

pub verdict_by-requires-clause-there : goal.verdict_by-requires-clause-there
verdict_by-requires-clause-there g c =
    let ns = c.args.tree.now.nodes in
    let below : c.loop-place.place < length ns = rw c.nodes-nodes.ensures.value at c.loop-place-test.true in
    at_own_key ns c.nodes-nodes.ensures.tree c.loop-place.place c.index-nodes-place.result below (rw c.nodes-nodes.ensures.value at c.index-nodes-place.is)

pub verdict_by-requires-clause-pattern : goal.verdict_by-requires-clause-pattern
verdict_by-requires-clause-pattern g c =
    let nodes = c.nodes-nodes.result.now in
    let i = c.loop-place.place in
    let n = c.index-nodes-place.result in
    pattern_picked nodes c.loop-place.patterns c.loop-place.fresh i n _ _
    (ap (λ (ps : List Compiled). patterns_by ps c.loop-place.fresh) c.loop-place.invariant.kept
    ∙ ap (patterns_by c.args.patterns.now) c.loop-place.invariant.fresh
    ∙ c.requires.patterns ∙ ap (map pattern_of) (sym c.nodes-nodes.ensures.value))
    (ap length c.loop-place.invariant.kept ∙ c.requires.kept ∙ ap length (sym c.nodes-nodes.ensures.value))
    (ap length c.loop-place.invariant.fresh ∙ c.requires.fresh ∙ ap length (sym c.nodes-nodes.ensures.value))
    (read_there nodes i n c.loop-place-test.true c.index-nodes-place.is)

pub returns-in_err-verdict-clause-bound : goal.returns-in_err-verdict-clause-bound
returns-in_err-verdict-clause-bound g c =
    let nodes = c.nodes-nodes.result.now in
    let i = c.loop-place.place in
    let n = c.index-nodes-place.result in
    subst (λ (xs : Nodes). c.verdict_by.new.steps ≤ c.args.steps.now + count_by is_submittable xs) c.nodes-nodes.ensures.value
    (ticks_in_all is_submittable nodes i n c.args.steps.now c.loop-place.steps c.verdict_by.new.steps (read_there nodes i n c.loop-place-test.true c.index-nodes-place.is) c.loop-place.invariant.ticks c.in_err-verdict.ensures.bound)

pub returns-in_err-push-clause-bound : goal.returns-in_err-push-clause-bound
returns-in_err-push-clause-bound g c =
    let nodes = c.nodes-nodes.result.now in
    let i = c.loop-place.place in
    let n = c.index-nodes-place.result in
    subst (λ (xs : Nodes). c.verdict_by.new.steps ≤ c.args.steps.now + count_by is_submittable xs) c.nodes-nodes.ensures.value
    (ticks_in_all is_submittable nodes i n c.args.steps.now c.loop-place.steps c.verdict_by.new.steps (read_there nodes i n c.loop-place-test.true c.index-nodes-place.is) c.loop-place.invariant.ticks c.in_ok-verdict.ensures.bound)

pub loop-place-preserved : goal.loop-place-preserved
loop-place-preserved g c =
    let nodes = c.nodes-nodes.result.now in
    let i = c.loop-place.place in
    let n = c.index-nodes-place.result in
    record {
      judged = map_more (verdict_of c.args.tree.now.nodes) nodes i n c.loop-place.verdicts.items c.push.new.self.items c.in_ok-verdict.verdict
          c.loop-place-test.true c.index-nodes-place.is c.loop-place.invariant.judged c.in_ok-push.ensures.items c.in_ok-verdict.ensures.ok;
      kept = set_same c.loop-place.patterns i _ c.verdict_by.new.pattern c.in_ok-verdict.ensures.kept ∙ c.loop-place.invariant.kept;
      fresh = set_same c.loop-place.fresh i _ c.verdict_by.new.fresh c.in_ok-verdict.ensures.fresh ∙ c.loop-place.invariant.fresh;
      ticks = ticks_within is_submittable nodes i n c.args.steps.now c.loop-place.steps c.verdict_by.new.steps (read_there nodes i n c.loop-place-test.true c.index-nodes-place.is) c.loop-place.invariant.ticks c.in_ok-verdict.ensures.bound;
    }
