use Rattle.std.proofs.Common.{◌≡◌, ℕ, take}
use Rattle.std.specs.Prelude.{Contains}
use Rattle.form_ports.specs.Shelf.{contents_of, numbers_of, at_number, NoneFell}
use Rattle.form_parts.specs.Parts.{file_numbers}
use Rattle.form_parts.proofs.PartLaws.{SoFar}
use Rattle.form_parts.proofs.parts.scan_entries.Given as goal

-- the entries so far were read, and no other file was touched
abbrev pub invariant-scanning : goal.invariant-scanning
invariant-scanning g l =
    (contents_of (λ b. (goal.Blob-dyn g (b.vtable, b.value)).content b.value) l.shelf.items
    ≡ contents_of (λ b. (goal.Blob-dyn g (b.vtable, b.value)).content b.value) l.initial.shelf.items)
    × NoneFell (numbers_of (λ b. (goal.Blob-dyn g (b.vtable, b.value)).faults b.value) l.initial.shelf.items)
    (numbers_of (λ b. (goal.Blob-dyn g (b.vtable, b.value)).faults b.value) l.shelf.items)
    × ((k : ℕ) → ¬ (Contains (file_numbers (take l.entry-index l.entries)) k)
    → at_number l.shelf.items k ≡ at_number l.initial.shelf.items k)
    × SoFar (contents_of (λ b. (goal.Blob-dyn g (b.vtable, b.value)).content b.value) l.initial.shelf.items)
    (numbers_of (λ b. (goal.Blob-dyn g (b.vtable, b.value)).position b.value) l.shelf.items)
    (take l.entry-index l.entries) l.most l.left l.sizes l.initial.scan l.scan
