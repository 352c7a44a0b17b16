use Rattle.std.proofs.Common.{◌≡◌, ◌++◌, map, take, drop}
use Rattle.form_encode.specs.Scanning.{seen_below}
use Rattle.form_encode.proofs.scanning.see_run.Given as goal

abbrev pub invariant-loop-i : goal.invariant-loop-i
invariant-loop-i l = l.marks.items ≡ map (seen_below l.bytes l.run.end) (take l.i l.fn.marks.items) ++ drop l.i l.fn.marks.items
