use Rattle.std.proofs.Common.{◌≡◌, ◌-◌, ◌^◌, ◌<◌, ◌++◌, string_bytes}
use Rattle.form_decimal.specs.Printed.{fraction_digits}
use Rattle.form_decimal.proofs.printing.with_digits.Given as goal

abbrev pub invariant-loop-place : goal.invariant-loop-place
invariant-loop-place l = record {
  bytes : string_bytes l.out ++ fraction_digits (12 - l.place) l.rest ≡ string_bytes l.fn.text ++ fraction_digits 12 l.fraction;
  below : l.rest < 10 ^ 12;
}
