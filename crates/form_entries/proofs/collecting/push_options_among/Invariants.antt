use Rattle.std.proofs.Common.{◌≡◌, ◌++◌, drop}
use Rattle.std.specs.List.{flat_map}
use Rattle.form_entries.specs.Below.{entry_by}
use Rattle.form_entries.specs.EntryList.{name_in}
use Rattle.form_entries.proofs.collecting.push_options_among.Given as goal

-- the entries so far, with those of the elements that are left
abbrev pub invariant-loop-node : goal.invariant-loop-node
invariant-loop-node l =
    l.entries.items ++ flat_map (entry_by l.page l.select.key (name_in l.select)) (drop l.node-index l.nodes)
    ≡ l.fn.entries.items ++ flat_map (entry_by l.page l.select.key (name_in l.select)) l.nodes
