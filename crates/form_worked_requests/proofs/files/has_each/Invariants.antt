use Rattle.std.proofs.Common.{All, take}
use Rattle.form_ports.specs.Shelf.{contents_of, IsThere}
use Rattle.form_worked_requests.proofs.files.has_each.Given as goal

-- the files so far are there
abbrev pub invariant-searching : goal.invariant-searching
invariant-searching g l =
    All (λ number. IsThere (contents_of (λ b. (goal.Blob-dyn g (b.vtable, b.value)).content b.value) l.shelf) number) (take l.number-index l.numbers)
