use Rattle.std.proofs.Common.{◌∙◌}
use Rattle.form_decimal.specs.Reading.{valid_number}
use Rattle.form_decimal.proofs.MeaningLemmas.{valid_found, valid_again, found_if}
use Rattle.form_decimal.proofs.reading.read_valid.Goals as goal

pub returns-clause-found : goal.returns-clause-found
returns-clause-found c = found_if (valid_number c.args.text.now) c.alone.result (valid_found c.args.text.now) c.alone.ensures

pub returns-clause-only : goal.returns-clause-only
returns-clause-only c = λ n v. c.alone.ensures ∙ valid_again c.args.text.now n v
