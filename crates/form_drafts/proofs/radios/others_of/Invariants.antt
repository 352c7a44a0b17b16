use Rattle.std.proofs.Common.{◌≡◌, ◌++◌, drop}
use Rattle.form_drafts.specs.Drafts.{keys_but}
use Rattle.form_drafts.proofs.radios.others_of.Given as goal

-- the other keys so far, and those that are left
abbrev pub invariant-loop-other : goal.invariant-loop-other
invariant-loop-other l = l.others.items ++ keys_but l.key (drop l.other-index l.keys) ≡ keys_but l.key l.keys
