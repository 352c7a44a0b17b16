use Rattle.std.proofs.Common.{◌≡◌, ◌≤◌, drop}
use Rattle.std.specs.List.{flat_map}
use Rattle.form_entries.specs.Below.{measured}
use Rattle.form_entries.specs.EntryList.{entries_of}
use Rattle.form_entries.proofs.measuring.with_elements.Given as goal

-- the bytes so far, with those of the elements that are left
abbrev pub invariant-loop-node : goal.invariant-loop-node
invariant-loop-node l =
    (measured l.total (flat_map (entries_of l.page l.form l.submitter l.at) (drop l.node-index l.nodes))
    ≡ measured l.before (flat_map (entries_of l.page l.form l.submitter l.at) l.nodes))
    × (l.total ≤ 18_446_744_073_709_551_615)
