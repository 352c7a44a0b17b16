use Rattle.std.proofs.Common.{◌≡◌, ◌+◌, ◌≤◌, map, take}
use Rattle.std.specs.List.{count_by}
use Rattle.form_tree.specs.Elements.{is_submittable}
use Rattle.form_page.specs.Views.{verdict_of}
use Rattle.form_page.proofs.verdicts.all_verdicts.Given as goal

-- the verdicts on the elements so far, one judgement for each that is submittable
abbrev pub invariant-loop-place : goal.invariant-loop-place
invariant-loop-place g l = record {
  judged : l.verdicts.items ≡ map (verdict_of l.tree.nodes) (take l.place l.nodes);
  kept : l.patterns ≡ l.fn.patterns;
  fresh : l.fresh ≡ l.fn.fresh;
  ticks : l.steps ≤ l.fn.steps + count_by is_submittable (take l.place l.nodes);
}
