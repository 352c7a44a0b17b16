use Rattle.std.proofs.Common.{sym}
use Rattle.form_decimal.proofs.SpellingLemmas.{front_found}
use Rattle.form_decimal.proofs.reading.alone.Goals as goal

pub number-requires : goal.number-requires
number-requires c = record { form = (front_found c.as_bytes.result.now _ (sym c.in-Some.ensures)).0.form }
