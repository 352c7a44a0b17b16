use Rattle.std.proofs.Common.{◌≡◌, ◌≤◌, drop}
use Rattle.std.specs.List.{flat_map}
use Rattle.form_entries.specs.Below.{entry_by, measured}
use Rattle.form_entries.specs.EntryList.{name_in}
use Rattle.form_entries.proofs.measuring.with_options_among.Given as goal

-- the bytes so far, with those of the elements that are left
abbrev pub invariant-loop-node : goal.invariant-loop-node
invariant-loop-node l =
    (measured l.total (flat_map (entry_by l.page l.select.key (name_in l.select)) (drop l.node-index l.nodes))
    ≡ measured l.before (flat_map (entry_by l.page l.select.key (name_in l.select)) l.nodes))
    × (l.total ≤ 18_446_744_073_709_551_615)
