use Rattle.form_markup.specs.Pieces.{is_before_end}
use Rattle.form_tokens.proofs.Laws.{before_stop}
use Rattle.form_markup.proofs.Texts.{before_end_low}
use Rattle.form_markup.proofs.reading.doctype_of.Goals as goal

pub split_at-requires : goal.split_at-requires
split_at-requires c = before_stop is_before_end before_end_low c.args.text.now c.before_end.result (rw c.as_bytes.ensures.value at c.before_end.ensures.value)
