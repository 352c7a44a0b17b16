use Rattle.std.proofs.Common.{◌≡◌, ◌++◌, drop}
use Rattle.std.specs.List.{filter}
use Rattle.form_drafts.specs.Joined.{is_other}
use Rattle.form_drafts.proofs.radios.push_others.Given as goal

-- the others so far, and those among the keys that are left
abbrev pub invariant-loop-other : goal.invariant-loop-other
invariant-loop-other l = l.others.items ++ filter (is_other l.draft.nodes l.key) (drop l.other-index l.keys) ≡ l.fn.others.items ++ filter (is_other l.draft.nodes l.key) l.keys
