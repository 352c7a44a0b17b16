use Rattle.form_drafts.proofs.LikeLaws.{input_next, reset_of_input, reset_of_select, reset_of_textarea}
use Rattle.form_drafts.proofs.resetting.reset_one.Goals as goal

pub returns-then-is_select_at : goal.returns-then-is_select_at
returns-then-is_select_at c = reset_of_select c.reset_select.result c.args.draft.now c.reset_select.new.draft c.args.key c.if-is_select_at.ensures c.reset_select.ensures

pub returns-then-is_textarea_at : goal.returns-then-is_textarea_at
returns-then-is_textarea_at c = reset_of_textarea c.reset_textarea.result c.args.draft.now c.reset_textarea.new.draft c.args.key c.if-is_select_at.ensures c.if-is_textarea_at.ensures c.reset_textarea.ensures

pub take_radio-requires : goal.take_radio-requires
take_radio-requires c = input_next c.args.draft.now c.reset_input.new.draft c.args.key c.in_ok-reset_input.ensures c.requires

pub returns : goal.returns
returns c =
    reset_of_input c.sanitise.result c.args.draft.now c.reset_input.new.draft c.take_radio.new.draft c.sanitise.new.draft c.args.key c.if-is_select_at.ensures c.if-is_textarea_at.ensures
    c.in_ok-reset_input.ensures c.in_ok-take_radio.ensures c.sanitise.ensures
