use Rattle.form_drafts.proofs.SoFarLaws.{attr_pushed, attr_renewed}
use Rattle.form_drafts.proofs.changed.attrs_put.Goals as goal

pub returns-then-has_name : goal.returns-then-has_name
returns-then-has_name c = attr_renewed c.args.name.now c.args.value.now c.args.attrs.now c.in_ok-list.list.items c.in_ok-list.ensures c.if-has_name.ensures

pub returns : goal.returns
returns c =
    attr_pushed c.args.name.now c.args.value.now c.args.attrs.now c.in_ok-list.list.items c.in_ok-list.ensures c.if-has_name.ensures
    c.in_ok-copy_of_text.field-0 c.in_ok-copy_of_text-2.field-0 c.in_ok-copy_of_text.ensures c.in_ok-copy_of_text-2.ensures c.push.new.self.items c.in_ok-push.ensures.items
