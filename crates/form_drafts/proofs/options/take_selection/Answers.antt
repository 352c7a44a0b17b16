use Rattle.std.proofs.Common.{◌∙◌, ap}
use Rattle.form_drafts.specs.Drafts.{keys_but}
use Rattle.form_drafts.proofs.OptionLaws.{draft_nowhere, draft_of_many, draft_selected}
use Rattle.form_drafts.proofs.options.take_selection.Goals as goal

pub returns-in_default : goal.returns-in_default
returns-in_default c = draft_nowhere c.args.draft.now c.args.key c.in_default.ensures

pub returns-then-is_multiple_so_far : goal.returns-then-is_multiple_so_far
returns-then-is_multiple_so_far c = draft_of_many c.args.draft.now c.args.key c.in-Some.select c.in-Some.ensures c.if-is_multiple_so_far.ensures

pub returns : goal.returns
returns c =
    draft_selected c.unselect_all.result c.args.draft.now c.unselect_all.new.draft c.args.key c.in-Some.select c.in_ok-options.options.items c.in_ok-others.others.items c.deref-2.result.now
    c.in-Some.ensures c.if-is_multiple_so_far.ensures c.in_ok-options.ensures (c.in_ok-others.ensures ∙ ap (keys_but c.args.key) c.deref.ensures.value) c.deref-2.ensures.value c.unselect_all.ensures
