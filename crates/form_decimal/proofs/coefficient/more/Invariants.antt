use Rattle.std.proofs.Common.{◌≡◌, ◌+◌, ◌*◌, ◌^◌, ◌≤◌, take}
use Rattle.std.specs.Str.Parse.{digits_value_after}
use Rattle.form_decimal.proofs.coefficient.more.Given as goal

abbrev pub invariant-loop-d : goal.invariant-loop-d
invariant-loop-d l = record {
  is : l.state.value * 10 ^ l.state.zeros ≡ digits_value_after 10 (l.fn.t.value * 10 ^ l.fn.t.zeros) (take l.d-index l.digits);
  bound : l.state.zeros ≤ l.fn.t.zeros + l.d-index;
}
