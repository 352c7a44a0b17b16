use Rattle.std.proofs.Common.{length, take, ◌-◌, ◌≤◌}
use Rattle.form_submit.specs.Sending.{Gathers}
use Rattle.form_submit.proofs.gatherer.Gatherer.take.Given as goal

-- the front of the bytes was gathered so far
abbrev pub invariant-taking : goal.invariant-taking
invariant-taking g l =
    Gathers (g.K.Sink.written l.initial.sink) (g.K.Sink.written l.sink) l.initial.self (take l.done l.bytes) l.self
    × (l.done ≤ length l.bytes)
    × (g.K.Sink.faults l.initial.sink ≤ g.K.Sink.faults l.sink)

abbrev pub decreases-taking : goal.decreases-taking
decreases-taking g l = length l.bytes - l.done
