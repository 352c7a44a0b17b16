use Rattle.std.proofs.Common.{◌≡◌, None, drop}
use Rattle.form_select.proofs.SettlingLaws.{latest}
use Rattle.form_select.proofs.settling.last_selected.Given as goal

-- the last so far, or a later one
abbrev pub invariant-loop-option : goal.invariant-loop-option
invariant-loop-option l = latest l.last (drop l.option-index l.options) ≡ latest None l.options
