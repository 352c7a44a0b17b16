use Rattle.std.proofs.Common.{◌≤◌, ◌-◌, take, vec_len}
use Rattle.form_input.specs.Limits.{too_many}
use Rattle.form_input.specs.Moved.{Gave}
use Rattle.form_input.proofs.moves.read_all.Given as goal

-- what was read so far stands in the front of the text
abbrev pub invariant-reading : goal.invariant-reading
invariant-reading g l =
    Gave (g.S.Source.held l.initial.source) (g.S.Source.held l.source) (g.S.Source.given l.initial.source)
    (g.S.Source.given l.source) (take l.done l.text.items)
    × (l.done ≤ vec_len l.text)
    × (l.done ≤ too_many)
    × (vec_len l.text ≤ too_many)
    × (g.S.Source.faults l.initial.source ≤ g.S.Source.faults l.source)

abbrev pub decreases-reading : goal.decreases-reading
decreases-reading g l = too_many - l.done
