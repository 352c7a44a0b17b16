use Rattle.std.proofs.Common.{◌≡◌, ◌++◌, drop}
use Rattle.form_submit.specs.Outcome.{parts_pieces}
use Rattle.form_submit.proofs.multipart.multipart_pieces.Given as goal

-- the pieces so far, and those of the parts that are left
abbrev pub invariant-loop-place : goal.invariant-loop-place
invariant-loop-place l =
    l.pieces.items ++ parts_pieces l.boundary (drop l.place l.entries) (drop l.place l.sizes)
    ≡ parts_pieces l.boundary l.entries l.sizes
