use Rattle.std.proofs.Common.{◌≡◌, ◌≤◌, drop, map}
use Rattle.form_entries.specs.Below.{measured}
use Rattle.form_entries.specs.EntryList.{file_entry}
use Rattle.form_entries.proofs.measuring.with_numbers.Given as goal

-- the bytes so far, with those of the files that are left
abbrev pub invariant-loop-number : goal.invariant-loop-number
invariant-loop-number l =
    (measured l.total (map (file_entry l.page l.name) (drop l.number-index l.numbers))
    ≡ measured l.before (map (file_entry l.page l.name) l.numbers))
    × (l.total ≤ 18_446_744_073_709_551_615)
