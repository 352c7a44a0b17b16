use Rattle.form_tokens.proofs.Boundaries.{class_boundary}
use Rattle.form_tokens.proofs.cursor.split_run.Goals as goal

pub split_at-requires : goal.split_at-requires
split_at-requires c = class_boundary c.args.class c.requires c.args.text.now c.utf8.text c.run_len.result (rw c.as_bytes.ensures.value at c.run_len.ensures.value)
