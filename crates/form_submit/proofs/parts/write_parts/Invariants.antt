use Rattle.std.proofs.Common.{◌≤◌, drop, flat_map}
use Rattle.form_ports.specs.Written.{WroteUpTo}
use Rattle.form_submit.proofs.parts.write_parts.Given as goal

-- the texts so far are written, and the others are left
abbrev pub invariant-loop-part : goal.invariant-loop-part
invariant-loop-part g l =
    WroteUpTo (g.K.Sink.written l.initial.sink) (g.K.Sink.written l.sink) (flat_map (λ part. part.now) l.parts)
    (flat_map (λ part. part.now) (drop l.part-index l.parts))
    × (g.K.Sink.faults l.initial.sink ≤ g.K.Sink.faults l.sink)
