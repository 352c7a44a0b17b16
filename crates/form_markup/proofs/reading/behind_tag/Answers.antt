use Rattle.std.proofs.Common.{sym, arith, ◌∙◌}
use Rattle.form_tokens.proofs.Laws.{after_first}
use Rattle.form_markup.proofs.reading.behind_tag.Goals as goal

pub split_at-requires : goal.split_at-requires
split_at-requires c = after_first 10 c.args.rest.now c.utf8.rest (omega arith) (sym c.begins.ensures ∙ c.if-begins.true)
