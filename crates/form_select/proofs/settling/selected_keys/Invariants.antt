use Rattle.std.proofs.Common.{◌≡◌, ◌++◌, drop, map}
use Rattle.std.specs.List.{filter}
use Rattle.form_select.proofs.settling.selected_keys.Given as goal

-- the keys so far, and those of the options that are left
abbrev pub invariant-loop-option : goal.invariant-loop-option
invariant-loop-option l = l.keys.items ++ map (λ o. o.0) (filter (λ o. o.2) (drop l.option-index l.options)) ≡ map (λ o. o.0) (filter (λ o. o.2) l.options)
