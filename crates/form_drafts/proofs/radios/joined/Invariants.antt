use Rattle.std.proofs.Common.{◌≡◌, ◌++◌, map, take}
use Rattle.form_drafts.proofs.radios.joined.Given as goal

-- those whose attributes have changed, and those among the moves so far
abbrev pub invariant-loop-change : goal.invariant-loop-change
invariant-loop-change l = l.keys.items ≡ l.initial.keys.items ++ map (λ m. m.key) (take l.change-index l.moves)
