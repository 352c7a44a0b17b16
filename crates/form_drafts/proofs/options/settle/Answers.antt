use Rattle.std.proofs.Common.{◌∙◌, ap}
use Rattle.form_drafts.specs.Drafts.{keys_but}
use Rattle.form_drafts.proofs.OptionLaws.{are_read, draft_last, draft_many, draft_no_select, draft_none}
use Rattle.form_drafts.proofs.options.settle.Goals as goal

pub returns-then-is_multiple_so_far : goal.returns-then-is_multiple_so_far
returns-then-is_multiple_so_far c = draft_many c.args.draft.now c.args.select c.if-is_multiple_so_far.ensures

pub returns-then-not-is_select_at : goal.returns-then-not-is_select_at
returns-then-not-is_select_at c = draft_no_select c.args.draft.now c.args.select c.if-not-is_select_at.ensures

pub returns-in-Some : goal.returns-in-Some
returns-in-Some c =
    let read = are_read c.args.draft.now c.args.select c.in_ok-options.options.items c.deref.result.now c.last_selected-last.result c.page.ensures.tree c.if-is_multiple_so_far.ensures c.in_ok-options.ensures c.deref.ensures.value c.last_selected-last.ensures in
    draft_last c.unselect_all.result c.args.draft.now c.unselect_all.new.draft c.args.select c.in_ok-options.options.items c.in_ok-others-in-Some.others.items c.deref-in-Some-2.result.now c.last_selected-last.result c.in-Some.last read c.in-Some.is (c.in_ok-others-in-Some.ensures ∙ ap (keys_but c.in-Some.last) c.deref-in-Some.ensures.value) c.deref-in-Some-2.ensures.value c.unselect_all.ensures

pub returns : goal.returns
returns c =
    let read = are_read c.args.draft.now c.args.select c.in_ok-options.options.items c.deref.result.now c.last_selected-last.result c.page.ensures.tree c.if-is_multiple_so_far.ensures c.in_ok-options.ensures c.deref.ensures.value c.last_selected-last.ensures in
    draft_none c.settle_none.result c.args.draft.now c.settle_none.new.draft c.args.select c.in_ok-options.options.items c.deref-in-None.result.now c.last_selected-last.result read c.in-None.is c.deref-in-None.ensures.value c.settle_none.ensures
