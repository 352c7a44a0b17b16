use Rattle.std.proofs.Common.{◌≡◌, ◌++◌, map}
use Rattle.std.specs.String.{string_bytes}
use Rattle.std.specs.Vec.Iter.{into_iter_items}
use Rattle.form_page.specs.Page.{new_file}
use Rattle.form_page.proofs.page.new_files.Given as goal

-- the files so far, and those of the names that are left
abbrev pub invariant-loop-name : goal.invariant-loop-name
invariant-loop-name l =
    (goal.iterator-loop-name).can_next l.name-iterator × (goal.iterator-loop-name).is_finite l.name-iterator
    × (l.files.items ++ map new_file (map string_bytes (into_iter_items l.name-iterator)) ≡ map new_file (map string_bytes l.fn.names.items))
