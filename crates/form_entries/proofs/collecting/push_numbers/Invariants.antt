use Rattle.std.proofs.Common.{◌≡◌, ◌++◌, drop, map}
use Rattle.form_entries.specs.EntryList.{file_entry}
use Rattle.form_entries.proofs.collecting.push_numbers.Given as goal

-- the entries so far, with those of the files that are left
abbrev pub invariant-loop-number : goal.invariant-loop-number
invariant-loop-number l =
    l.entries.items ++ map (file_entry l.page l.name) (drop l.number-index l.numbers)
    ≡ l.fn.entries.items ++ map (file_entry l.page l.name) l.numbers
