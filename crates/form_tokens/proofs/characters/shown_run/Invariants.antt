use Rattle.std.proofs.Common.{◌≡◌, ◌+◌, ◌-◌, ◌≤◌, drop, length}
use Rattle.form_tokens.specs.Characters.{shown_len}
use Rattle.form_tokens.specs.Ahead.{IsClear}
use Rattle.form_tokens.proofs.characters.shown_run.Given as goal

abbrev pub invariant-steps : goal.invariant-steps
invariant-steps l = (shown_len l.context l.bytes ≡ l.done + shown_len l.context (drop l.done l.bytes)) × (l.done ≤ length l.bytes) × IsClear l.context l.clear (drop l.done l.bytes)

abbrev pub decreases-steps : goal.decreases-steps
decreases-steps l = length l.bytes - l.done
