use Rattle.std.proofs.Common.{◌≡◌, ◌≤◌, ◌-◌, length, map}
use Rattle.form_encode.specs.Scanning.{seen_below}
use Rattle.form_encode.proofs.scanning.see.Given as goal

-- the delimiters that stand below this place were seen
abbrev pub invariant-seeing : goal.invariant-seeing
invariant-seeing l = (l.marks.items ≡ map (seen_below l.bytes l.from) l.fn.marks.items) × (l.from ≤ length l.bytes)

abbrev pub decreases-seeing : goal.decreases-seeing
decreases-seeing l = length l.bytes - l.from
