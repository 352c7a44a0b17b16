use Rattle.std.proofs.Common.{◌≡◌, ◌^◌, ◌<◌, drop}
use Rattle.form_calendar.specs.Reading.{number_after}
use Rattle.form_calendar.proofs.digits.number.Given as goal

abbrev pub invariant-loop-d : goal.invariant-loop-d
invariant-loop-d l = record {
  rest : number_after l.value (drop l.d-index l.digits) ≡ number_after 0 l.digits;
  below : l.value < 10 ^ l.d-index;
}
