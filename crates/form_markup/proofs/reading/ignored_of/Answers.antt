use Rattle.std.proofs.Common.{sym, ◌∙◌}
use Rattle.form_markup.proofs.Texts.{dashes_boundary, doctype_boundary}
use Rattle.form_markup.proofs.reading.ignored_of.Goals as goal

pub split_at-requires : goal.split_at-requires
split_at-requires c = dashes_boundary c.args.text.now c.utf8.text (sym c.begins_comment.ensures ∙ c.if-begins_comment.true)

pub split_at-requires-then-is_doctype : goal.split_at-requires-then-is_doctype
split_at-requires-then-is_doctype c = doctype_boundary c.args.text.now c.utf8.text (sym c.is_doctype.ensures ∙ c.if-is_doctype.true)
