use Rattle.std.proofs.Common.{◌≡◌, ◌-◌, ◌≤◌, length}
use Rattle.form_ports.specs.Ports.{left_from}
use Rattle.form_submit.proofs.FileLaws.{Reading}
use Rattle.form_submit.proofs.file.send_file.Given as goal

-- what was read so far is a front of the content, and was gathered
abbrev pub invariant-reading : goal.invariant-reading
invariant-reading g l =
    let first = goal.Blob-dyn g (l.initial.blob.vtable, l.initial.blob.value) in
    let now = goal.Blob-dyn g (l.blob.vtable, l.blob.value) in
    (now.content l.blob.value ≡ first.content l.initial.blob.value)
    × Reading (first.content l.initial.blob.value) (left_from (now.position l.blob.value) (now.content l.blob.value))
    (g.K.Sink.written l.initial.sink) (g.K.Sink.written l.sink) l.initial.gatherer l.gatherer l.done
    × (now.position l.blob.value ≡ l.done)
    × (l.done ≤ l.size)
    × (first.faults l.initial.blob.value ≤ now.faults l.blob.value)
    × (g.K.Sink.faults l.initial.sink ≤ g.K.Sink.faults l.sink)
    × (length l.room ≡ 16384)

abbrev pub decreases-reading : goal.decreases-reading
decreases-reading g l = l.size - l.done
