use Rattle.std.proofs.Common.{arith}
use Rattle.form_ports.specs.Shelf.{contents_of, IsThere}
use Rattle.form_worked_requests.proofs.FileLaws.{All-more, All-whole}
use Rattle.form_worked_requests.proofs.files.has_each.Goals as goal

pub searching-preserved : goal.searching-preserved
searching-preserved g c =
    All-more (λ number. IsThere (contents_of (λ b. (goal.Blob-dyn g (b.vtable, b.value)).content b.value) c.args.shelf.now) number) _ _ 0
    c.searching-test.true c.searching.invariant (c.is_there.ensures c.if-not-is_there.false)

pub returns : goal.returns
returns g c = λ _.
    All-whole (λ number. IsThere (contents_of (λ b. (goal.Blob-dyn g (b.vtable, b.value)).content b.value) c.args.shelf.now) number) _ _
    (omega (arith, c.searching-test.false)) c.searching.invariant
