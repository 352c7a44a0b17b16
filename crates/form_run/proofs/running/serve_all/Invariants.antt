use Rattle.std.proofs.Common.{◌≤◌, length}
use denote.Shadow.{shadow}
use denote.Text.{Utf8}
use Rattle.form_ports.specs.Shelf.{contents_of, numbers_of}
use Rattle.form_input.specs.Lines.{lines_of}
use Rattle.form_run.specs.Endings.{AreFiles, NoneCame}
use Rattle.form_run.proofs.ServedLaws.{ServedUpTo}
use Rattle.form_run.proofs.running.serve_all.Given as goal

-- the lines so far are served, and those of the rest are left
abbrev pub invariant-lines : goal.invariant-lines
invariant-lines g l =
    ServedUpTo (contents_of (λ b. (goal.Blob-dyn g (b.vtable, b.value)).content b.value) l.initial.shelf.items)
    (contents_of (λ b. (goal.Blob-dyn g (b.vtable, b.value)).content b.value) l.shelf.items)
    l.initial.shelf.items l.shelf.items
    l.initial.session l.session (lines_of l.text) (lines_of l.rest)
    (g.K.Sink.written l.initial.sink) (g.K.Sink.written l.sink) l.initial.pending.items l.pending.items
    × NoneCame (numbers_of (λ b. (goal.Blob-dyn g (b.vtable, b.value)).faults b.value) l.initial.shelf.items)
    (numbers_of (λ b. (goal.Blob-dyn g (b.vtable, b.value)).faults b.value) l.shelf.items)
    × AreFiles (contents_of (λ b. (goal.Blob-dyn g (b.vtable, b.value)).content b.value) l.shelf.items) l.session.page.files
    × (g.K.Sink.faults l.initial.sink ≤ g.K.Sink.faults l.sink)
    × shadow (Utf8 l.rest)

abbrev pub decreases-lines : goal.decreases-lines
decreases-lines g l = length l.rest
