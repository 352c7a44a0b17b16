use Rattle.std.proofs.Common.{ℕ, ◌≡◌, ◌≤◌, ◌<◌, ◌-◌, length, slice_index}
use Rattle.form_encode.proofs.scanning.blocks_end.Given as goal

-- dashes alone were passed
abbrev pub invariant-passing : goal.invariant-passing
invariant-passing l = (l.fn.start ≤ l.at) × (l.at ≤ length l.bytes) × ((k : ℕ) → l.fn.start ≤ k → k < l.at → slice_index l.bytes k ≡ 45)

abbrev pub decreases-passing : goal.decreases-passing
decreases-passing l = length l.bytes - l.at
