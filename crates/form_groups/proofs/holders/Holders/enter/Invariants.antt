use Rattle.std.proofs.Common.{◌≡◌, ℕ, ◌==◌, ◌++◌, map, take}
use Rattle.std.specs.List.{filter}
use Rattle.form_groups.specs.Holders.{kept_keys}
use Rattle.form_groups.proofs.holders.Holders.enter.Given as goal

-- under each file the element as often as it was among those so far
abbrev pub invariant-loop-number : goal.invariant-loop-number
invariant-loop-number l =
    (file : ℕ) → kept_keys l.self file ≡ kept_keys l.fn.self file ++ map (λ number. l.node.key) (filter (λ number. number == file) (take l.number-index l.node.state.files))
