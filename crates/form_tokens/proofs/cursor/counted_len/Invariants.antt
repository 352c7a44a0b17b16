use Rattle.std.proofs.Common.{◌≡◌, ◌+◌, drop}
use Rattle.form_tokens.specs.Runs.{run_len}
use Rattle.form_tokens.proofs.cursor.counted_len.Given as goal

abbrev pub invariant-loop-i : goal.invariant-loop-i
invariant-loop-i l = l.i + run_len l.class (drop l.i l.bytes) ≡ run_len l.class l.bytes
