use Rattle.std.proofs.Common.{sym}
use Rattle.form_decimal.proofs.SpellingLemmas.{front_found}
use Rattle.form_decimal.proofs.reading.front.Goals as goal

pub number-requires : goal.number-requires
number-requires c = record { form = (front_found c.behind_whitespace.result.now _ (sym c.in-Some.ensures)).0.form }
