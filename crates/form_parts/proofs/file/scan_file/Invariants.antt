use Rattle.std.proofs.Common.{◌≡◌, ◌-◌, ◌≤◌, ◌+◌, length}
use Rattle.form_ports.specs.Ports.{left_from}
use Rattle.form_ports.proofs.Laws.{Reading}
use Rattle.form_parts.specs.declared.file.TheConstants.{ROOM}
use Rattle.form_parts.specs.Parts.{Fed}
use Rattle.form_parts.proofs.file.scan_file.Given as goal

-- what was read so far is a front of the content, and was fed
abbrev pub invariant-reading : goal.invariant-reading
invariant-reading g l =
    let first = goal.Blob-dyn g (l.initial.blob.vtable, l.initial.blob.value) in
    let now = goal.Blob-dyn g (l.blob.vtable, l.blob.value) in
    (now.content l.blob.value ≡ first.content l.initial.blob.value)
    × Reading (λ bytes. Fed l.initial.scan l.scan bytes) (first.content l.initial.blob.value)
    (left_from (now.position l.blob.value) (now.content l.blob.value)) l.done
    × (now.position l.blob.value ≡ l.done)
    × (l.done ≤ l.most + 1)
    × (first.faults l.initial.blob.value ≤ now.faults l.blob.value)
    × (length l.room ≡ ROOM)

abbrev pub decreases-reading : goal.decreases-reading
decreases-reading g l = l.most + 1 - l.done
