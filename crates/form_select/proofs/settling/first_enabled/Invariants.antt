use Rattle.std.proofs.Common.{◌≡◌, not, drop}
use Rattle.std.specs.List.{find}
use Rattle.form_select.proofs.settling.first_enabled.Given as goal

-- the options that are passed are disabled
abbrev pub invariant-loop-option : goal.invariant-loop-option
invariant-loop-option l = find (λ o. not o.1) (drop l.option-index l.options) ≡ find (λ o. not o.1) l.options
