use Rattle.std.proofs.Common.{◌∙◌}
use Rattle.form_decimal.specs.Reading.{lenient_number}
use Rattle.form_decimal.proofs.MeaningLemmas.{lenient_found, lenient_again, found_if}
use Rattle.form_decimal.proofs.reading.read_lenient.Goals as goal

pub returns-clause-found : goal.returns-clause-found
returns-clause-found c = found_if (lenient_number c.args.text.now) c.front.result (lenient_found c.args.text.now) c.front.ensures

pub returns-clause-only : goal.returns-clause-only
returns-clause-only c = λ n v. c.front.ensures ∙ lenient_again c.args.text.now n v
