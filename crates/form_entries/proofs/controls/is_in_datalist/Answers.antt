use Rattle.std.proofs.Common.{◌||◌, sym, ap, ◌∙◌}
use Rattle.std.specs.List.{list_any}
use Rattle.form_tree.specs.Elements.{is_datalist}
use Rattle.form_tree.specs.Ownership.{ancestors}
use Rattle.form_entries.proofs.UpwardLaws.{at_top, step_falls, step_up}
use Rattle.form_entries.proofs.controls.is_in_datalist.Goals as goal

pub returns-then-is_datalist : goal.returns-then-is_datalist
returns-then-is_datalist c =
    let ns = c.args.tree.now.nodes in
    ap (λ b. b || list_any is_datalist (ancestors ns c.in-Some.up)) c.if-is_datalist.ensures
    ∙ sym (step_up ns c.len.ensures.tree c.climbing.at c.in-Some.up (sym c.in-Some.ensures)) ∙ c.climbing.invariant

pub climbing-smaller : goal.climbing-smaller
climbing-smaller c = step_falls c.args.tree.now.nodes c.len.ensures.tree c.climbing.at c.in-Some.up (sym c.in-Some.ensures)

pub climbing-preserved : goal.climbing-preserved
climbing-preserved c =
    let ns = c.args.tree.now.nodes in
    ap (λ b. b || list_any is_datalist (ancestors ns c.in-Some.up)) c.if-is_datalist.ensures
    ∙ sym (step_up ns c.len.ensures.tree c.climbing.at c.in-Some.up (sym c.in-Some.ensures)) ∙ c.climbing.invariant

pub returns : goal.returns
returns c = sym (at_top c.args.tree.now.nodes c.len.ensures.tree c.climbing.at (sym c.in_default.ensures)) ∙ c.climbing.invariant
