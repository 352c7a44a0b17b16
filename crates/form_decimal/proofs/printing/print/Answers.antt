use Rattle.std.proofs.Common.{◌≡◌, ℕ, List, Some, string_bytes}
use Rattle.form_decimal.specs.Reading.{valid_number}
use Rattle.form_decimal.specs.Printed.{IsPrinted, printed}
use Rattle.form_decimal.proofs.PrintLemmas.{printed_if, printed_is, printed_once}
use Rattle.form_decimal.proofs.MeaningLemmas.{valid_again}
use Rattle.form_decimal.proofs.printing.print.Goals as goal

pub returns-clause-form : goal.returns-clause-form
returns-clause-form c =
    printed_if (IsPrinted c.args.n) string_bytes c.args.n c.printed.result c.printed.ensures.text (printed_is c.args.n c.printed.ensures.fits)

pub returns-clause-only : goal.returns-clause-only
returns-clause-only c =
    printed_if (λ s. (t : List ℕ) → IsPrinted c.args.n t → t ≡ s) string_bytes c.args.n c.printed.result c.printed.ensures.text
    (λ t h. printed_once c.args.n t (printed c.args.n) h (printed_is c.args.n c.printed.ensures.fits))

pub returns-clause-reads_back : goal.returns-clause-reads_back
returns-clause-reads_back c =
    printed_if (λ s. valid_number s ≡ Some c.args.n) string_bytes c.args.n c.printed.result c.printed.ensures.text
    (valid_again (printed c.args.n) c.args.n (printed_is c.args.n c.printed.ensures.fits).reads_back)
