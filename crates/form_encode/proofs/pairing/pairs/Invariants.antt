use Rattle.std.proofs.Common.{◌≡◌, take}
use Rattle.form_encode.specs.Pairs.{pairs_of}
use Rattle.form_encode.proofs.pairing.pairs.Given as goal

abbrev pub invariant-loop-entry : goal.invariant-loop-entry
invariant-loop-entry l = l.pairs.items ≡ pairs_of (take l.entry-index l.entries)
