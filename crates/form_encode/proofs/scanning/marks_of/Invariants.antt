use Rattle.std.proofs.Common.{◌≡◌, [], ◌∷◌, map, take, string_bytes}
use Rattle.form_encode.specs.Scanning.{mark_of}
use Rattle.form_encode.proofs.scanning.marks_of.Given as goal

abbrev pub invariant-loop-boundary : goal.invariant-loop-boundary
invariant-loop-boundary l = l.marks.items ≡ map (mark_of ([] ∷ [])) (map string_bytes (take l.boundary-index l.bounds))
