use Rattle.std.proofs.Common.{◌≡◌, ◌++◌, drop}
use Rattle.std.specs.List.{flat_map}
use Rattle.form_entries.specs.EntryList.{entries_of}
use Rattle.form_entries.proofs.collecting.collect_from.Given as goal

-- the entries so far, with those of the elements that are left
abbrev pub invariant-loop-node : goal.invariant-loop-node
invariant-loop-node l =
    l.entries.items ++ flat_map (entries_of l.page l.form l.submitter l.at) (drop l.node-index l.nodes)
    ≡ flat_map (entries_of l.page l.form l.submitter l.at) l.nodes
