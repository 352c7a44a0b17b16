use Rattle.std.proofs.Common.{◌≡◌, ◌+◌, drop}
use Rattle.form_entries.specs.EntryList.{entries_length}
use Rattle.form_submit.proofs.submission.length_of.Given as goal

-- the bytes so far, and those of the entries that are left
abbrev pub invariant-loop-entry : goal.invariant-loop-entry
invariant-loop-entry l = l.bytes + entries_length (drop l.entry-index l.entries) ≡ entries_length l.entries
