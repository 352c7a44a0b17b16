use Rattle.std.proofs.Common.{◌≡◌, ◌*◌, ◌^◌, ◌<◌}
use Rattle.form_decimal.proofs.scaling.raised.Given as goal

abbrev pub invariant-loop-turn : goal.invariant-loop-turn
invariant-loop-turn l = record {
  is : l.result ≡ l.value * 10 ^ l.turn;
  below : l.result < 10 ^ 30;
}
