use Rattle.std.proofs.Common.{All, take}
use Rattle.form_ports.specs.Shelf.{contents_of, IsThere}
use Rattle.form_worked_requests.proofs.files.has_all.Given as goal

-- the files of the elements so far are there
abbrev pub invariant-searching : goal.invariant-searching
invariant-searching g l =
    All (λ n. All (λ number. IsThere (contents_of (λ b. (goal.Blob-dyn g (b.vtable, b.value)).content b.value) l.shelf) number) n.state.files)
    (take l.node-index l.nodes)
