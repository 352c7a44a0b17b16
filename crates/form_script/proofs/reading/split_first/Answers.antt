use Rattle.std.proofs.lemmas.Str.{IsCharBoundary-after_ascii}
use Rattle.form_script.proofs.reading.split_first.Goals as goal

pub split_at-requires : goal.split_at-requires
split_at-requires c =
    IsCharBoundary-after_ascii c.args.text.now 0 c.utf8.text
    (rw c.as_bytes.ensures.value at c.in-len1-up.len_at_least)
    (rw c.as_bytes.ensures.value at c.if-first-ge128.false)
