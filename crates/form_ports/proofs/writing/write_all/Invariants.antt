use Rattle.std.proofs.Common.{length, ◌-◌, ◌≡◌, ◌≤◌, take}
use Rattle.std.specs.Io.KnownBytes.{append_known}
use Rattle.form_ports.proofs.writing.write_all.Given as goal

-- the front of the text was written so far
abbrev pub invariant-writing : goal.invariant-writing
invariant-writing g l =
    (g.K.Sink.written l.sink ≡ append_known (g.K.Sink.written l.initial.sink) (take l.done l.text))
    × (l.done ≤ length l.text)
    × (g.K.Sink.faults l.initial.sink ≤ g.K.Sink.faults l.sink)

abbrev pub decreases-writing : goal.decreases-writing
decreases-writing g l = length l.text - l.done
