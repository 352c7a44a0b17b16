use Rattle.std.proofs.Common.{◌≡◌, ◌+◌, drop}
use Rattle.form_decimal.specs.Spelling.{digit_len}
use Rattle.form_decimal.proofs.spelling.digit_count.Given as goal

abbrev pub invariant-loop-i : goal.invariant-loop-i
invariant-loop-i l = l.i + digit_len (drop l.i l.text) ≡ digit_len l.text
