use Rattle.std.proofs.Common.{sym}
use Rattle.form_tokens.proofs.Boundaries.{after_first}
use Rattle.form_tokens.proofs.cursor.after_byte.Goals as goal

pub split_at-requires : goal.split_at-requires
split_at-requires c = after_first c.args.byte c.args.text.now c.utf8.text c.requires (sym c.if-not-begins.ensures)
