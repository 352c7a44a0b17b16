-- The laws that other crates build on.
use Rattle.std.proofs.Common.{◌≡◌, ◌^◌, ◌≤◌, Some, ℤ, unsigned_abs}
use Rattle.form_decimal.specs.Numeral.{IsValidNumber}
use Rattle.form_decimal.specs.Reading.{valid_number}
use Rattle.form_decimal.specs.Printed.{printed}
use Rattle.form_decimal.proofs.MeaningLemmas.{valid_again}
use Rattle.form_decimal.proofs.PrintLemmas.{printed_is}
pub use Rattle.form_decimal.proofs.ChoiceLemmas.{lt_true, lt_false, below_is}
pub use Rattle.form_decimal.proofs.FoldLemmas.{aligned_found, aligned_again, IsDecided, Tests, nearest_is, nearest_same, nearest_tested}
pub use Rattle.form_decimal.proofs.MeaningLemmas.{valid_found, valid_again, valid_bound, lenient_found, lenient_again, lenient_bound}
pub use Rattle.form_decimal.proofs.PrintLemmas.{printed_is, printed_once}

-- what is printed is valid and reads back
pub printed_valid : (c : ℤ) → unsigned_abs c ≤ 10 ^ 29 → IsValidNumber (printed c) c
printed_valid c h = (printed_is c h).reads_back

-- so it reads back as the number
pub printed_again : (c : ℤ) → unsigned_abs c ≤ 10 ^ 29 → valid_number (printed c) ≡ Some c
printed_again c h = valid_again (printed c) c (printed_valid c h)
