use Rattle.std.proofs.Common.{◌≡◌, ◌≤◌, ℕ, take}
use Rattle.std.specs.Prelude.{Contains}
use Rattle.form_ports.specs.Shelf.{contents_of, numbers_of, at_number, NoneFell, LastSizes}
use Rattle.form_submit.specs.PrintedRequest.{file_numbers, file_sizes}
use Rattle.form_submit.proofs.SendLaws.{BodyGathers}
use Rattle.form_submit.proofs.body.send_body.Given as goal

-- the pieces so far were gathered, and no other file was touched
abbrev pub invariant-sending : goal.invariant-sending
invariant-sending g l =
    (contents_of (λ b. (goal.Blob-dyn g (b.vtable, b.value)).content b.value) l.shelf.items
    ≡ contents_of (λ b. (goal.Blob-dyn g (b.vtable, b.value)).content b.value) l.initial.shelf.items)
    × NoneFell (numbers_of (λ b. (goal.Blob-dyn g (b.vtable, b.value)).faults b.value) l.initial.shelf.items)
    (numbers_of (λ b. (goal.Blob-dyn g (b.vtable, b.value)).faults b.value) l.shelf.items)
    × ((k : ℕ) → ¬ (Contains (file_numbers (take l.piece-index l.pieces)) k) → at_number l.shelf.items k ≡ at_number l.initial.shelf.items k)
    × BodyGathers (contents_of (λ b. (goal.Blob-dyn g (b.vtable, b.value)).content b.value) l.initial.shelf.items)
    (take l.piece-index l.pieces) (g.K.Sink.written l.initial.sink) (g.K.Sink.written l.sink) l.gatherer
    × LastSizes (numbers_of (λ b. (goal.Blob-dyn g (b.vtable, b.value)).position b.value) l.shelf.items)
    (file_numbers (take l.piece-index l.pieces)) (file_sizes (take l.piece-index l.pieces))
    × (g.K.Sink.faults l.initial.sink ≤ g.K.Sink.faults l.sink)
