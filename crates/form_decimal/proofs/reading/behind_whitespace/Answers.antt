use Rattle.std.proofs.Common.{refl}
use Rattle.std.proofs.lemmas.Str.Ascii.{trim_ascii_start_is}
use Rattle.form_decimal.proofs.reading.behind_whitespace.Goals as goal

pub returns : goal.returns
returns c = rw (c.as_bytes.ensures.value, trim_ascii_start_is _ _ c.trim_ascii_start.ensures.value) refl
